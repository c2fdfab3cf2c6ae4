-- What the commands of `run` do to a map, in order. In `vecmap_tests`, `MapRunExamples.antt` has an example of each line of
-- `ListStep` and of `CapacityStep`.
use Rattle.std.specs.Prelude.{◌≡◌, ◌-◌, ◌<◌, ◌≤◌, ◌++◌, None, Bool, IsSomeAnd, List, Option, [], ◌∷◌, drop, is_some, length, not, remove, reverse, slice_get, swap, take, ⊤}
use Rattle.std.specs.Option.{option_map_or}
use Rattle.std.specs.declared.clone.Clone as clone
use Rattle.vecmap.specs.{declared.map_run.command.MapCommand.MapCommand, declared.map_run.reply.MapReply.MapReply}
use Rattle.vecmap.specs.declared.map_run.command.MapCommand.TheVariants.{ContainsKey, Equals, First, Get, GetIndex, IndexOf, Last, Len, ToVec, Append, Clear, Insert, InsertAt, InsertFull, InsertKey, OrInsert, Pop, Remove, RemoveEntry, RemoveIndex, Reverse, SplitOff, SwapIndices, SwapRemove, SwapRemoveEntry, SwapRemoveIndex, Truncate}
use Rattle.vecmap.specs.declared.map_run.reply.MapReply.TheVariants.{Done, Full, Kept, Moved, NoMemory, Number, OutOfRange, Pair, Pairs, Place, Rest, Truth, Value}
use Rattle.vecmap_base.specs.{Clones.{ArePairClones, IsCloneOf, IsPairClone}, Equality.has_same_counts, Items.swap_without}
use Rattle.vecmap_base.specs.Pairs.{index_of, index_or_length, lookup, lookup_indexed, lookup_pair, put, put_at, put_key, puts, swap_without_key, without_key}
use Rattle.vecmap_map.specs.Contents.{Contents, HasRoom, IsFull, KeepsRoom}

module _ {K V : Type 0} (values : clone.Ghosts V) where
  -- Example: of no value: `Value` none, and never `NoMemory`.
  -- The reply is a clone of the value, if there is one. It is `NoMemory` only if the clone can fail.
  abbrev pub RepliesValue : Option V → MapReply K V → Type 0
  RepliesValue value (Value copy) = IsCloneOf values.is_clone value copy
  RepliesValue value NoMemory = IsSomeAnd value (λ v. ¬ (values.is_infallible v))
  RepliesValue value _ = ⊥

module _ {K V : Type 0} (keys : clone.Ghosts K) (values : clone.Ghosts V) where
  -- The reply is a clone of the pair, if there is one. It is `NoMemory` only if a clone can fail.
  abbrev pub RepliesPair : Option (K × V) → MapReply K V → Type 0
  RepliesPair pair (Pair copy) = IsCloneOf (IsPairClone keys.is_clone values.is_clone) pair copy
  RepliesPair pair NoMemory = IsSomeAnd pair (λ p. ¬ (keys.is_infallible p.0 × values.is_infallible p.1))
  RepliesPair pair _ = ⊥

  -- The reply is clones of all pairs, or `NoMemory`.
  abbrev pub RepliesPairs : List (K × V) → MapReply K V → Type 0
  RepliesPairs l (Pairs copies) = ArePairClones keys.is_clone values.is_clone l copies.items
  RepliesPairs l NoMemory = ⊤
  RepliesPairs l _ = ⊥

module _ {K V : Type 0} (eq : K → K → Bool) (eq_value : V → V → Bool) (keys : clone.Ghosts K) (values : clone.Ghosts V) where
  -- A command that reads, is out of range or runs out of memory leaves the list. Any other reply is impossible.
  -- Example: `Insert 1 30` on `[(1,10)]`: `Value 10`, and `[(1,30)]`.
  -- One command with this reply turns the list l into the list m.
  abbrev pub ListStep : List (K × V) → MapCommand K V → MapReply K V → List (K × V) → Type 0
  ListStep l (Insert k v) (Value old) m = (old ≡ lookup eq l k) × (m ≡ put eq l k v)
  ListStep l (Insert k v) NoMemory m = (index_of eq l k ≡ None) × (m ≡ l)
  ListStep l (InsertFull k v) (Full index old) m = (index ≡ index_or_length eq l k) × (old ≡ lookup eq l k) × (m ≡ put eq l k v)
  ListStep l (InsertFull k v) NoMemory m = (index_of eq l k ≡ None) × (m ≡ l)
  ListStep l (InsertAt i k v) (Moved old) m = (i ≤ length l) × (old ≡ lookup_indexed eq l k) × (m ≡ put_at eq l i k v)
  ListStep l (InsertAt i k v) OutOfRange m = (length l < i) × (m ≡ l)
  ListStep l (InsertAt i k v) NoMemory m = (i ≤ length l) × (index_of eq l k ≡ None) × (m ≡ l)
  ListStep l (InsertKey k v) (Pair old) m = (old ≡ lookup_pair eq l k) × (m ≡ put_key eq l k v)
  ListStep l (InsertKey k v) NoMemory m = (index_of eq l k ≡ None) × (m ≡ l)
  ListStep l (OrInsert k v) (Kept index added) m = (index ≡ index_or_length eq l k) × (added ≡ not (is_some (index_of eq l k))) × (m ≡ option_map_or (λ i. l) (index_of eq l k) (l ++ (k, v) ∷ []))
  ListStep l (OrInsert k v) NoMemory m = (index_of eq l k ≡ None) × (m ≡ l)
  ListStep l (Get k) reply m = RepliesValue values (lookup eq l k) reply × (m ≡ l)
  ListStep l (GetIndex i) reply m = RepliesPair keys values (slice_get l i) reply × (m ≡ l)
  ListStep l (IndexOf k) (Place index) m = (index ≡ index_of eq l k) × (m ≡ l)
  ListStep l (ContainsKey k) (Truth there) m = (there ≡ is_some (index_of eq l k)) × (m ≡ l)
  ListStep l First reply m = RepliesPair keys values (slice_get l 0) reply × (m ≡ l)
  ListStep l Last reply m = RepliesPair keys values (slice_get l (length l - 1)) reply × (m ≡ l)
  ListStep l Len (Number count) m = (count ≡ length l) × (m ≡ l)
  ListStep l (Remove k) (Value old) m = (old ≡ lookup eq l k) × (m ≡ without_key eq l k)
  ListStep l (RemoveEntry k) (Pair old) m = (old ≡ lookup_pair eq l k) × (m ≡ without_key eq l k)
  ListStep l (SwapRemove k) (Value old) m = (old ≡ lookup eq l k) × (m ≡ swap_without_key eq l k)
  ListStep l (SwapRemoveEntry k) (Pair old) m = (old ≡ lookup_pair eq l k) × (m ≡ swap_without_key eq l k)
  ListStep l (RemoveIndex i) (Pair old) m = (i < length l) × (old ≡ slice_get l i) × (m ≡ remove l i)
  ListStep l (RemoveIndex i) OutOfRange m = (length l ≤ i) × (m ≡ l)
  ListStep l (SwapRemoveIndex i) (Pair old) m = (i < length l) × (old ≡ slice_get l i) × (m ≡ swap_without l i)
  ListStep l (SwapRemoveIndex i) OutOfRange m = (length l ≤ i) × (m ≡ l)
  ListStep l Pop (Pair old) m = (old ≡ slice_get l (length l - 1)) × (m ≡ take (length l - 1) l)
  ListStep l (SwapIndices i j) Done m = (i < length l) × (j < length l) × (m ≡ swap l i j)
  ListStep l (SwapIndices i j) OutOfRange m = ¬ ((i < length l) × (j < length l)) × (m ≡ l)
  ListStep l (Truncate len) Done m = m ≡ take len l
  ListStep l Clear Done m = m ≡ []
  ListStep l Reverse Done m = m ≡ reverse l
  ListStep l (Append other) Done m = m ≡ puts eq l other.entries
  ListStep l (Append other) NoMemory m = (0 < length other.entries) × (m ≡ l)
  ListStep l (SplitOff i) (Rest rest) m = (i ≤ length l) × (rest.entries ≡ drop i l) × (m ≡ take i l)
  ListStep l (SplitOff i) OutOfRange m = (length l < i) × (m ≡ l)
  ListStep l (SplitOff i) NoMemory m = (i < length l) × (m ≡ l)
  ListStep l ToVec reply m = RepliesPairs keys values l reply × (m ≡ l)
  ListStep l (Equals other) (Truth same) m = (same ≡ has_same_counts eq eq_value l other.entries) × (m ≡ l)
  ListStep l command reply m = ⊥

  -- Example: of an existing key: the same capacity.
  -- The capacity after a pair is inserted: only a new key in a full map needs memory.
  abbrev pub PutsInRoom : K → Contents K V → MapReply K V → Contents K V → Type 0
  PutsInRoom k m OutOfRange n = n.capacity ≡ m.capacity
  PutsInRoom k m NoMemory n = IsFull m × (n.capacity ≡ m.capacity)
  PutsInRoom k m reply n = KeepsRoom eq m k n

  -- Example: after `Insert 1 30` on `[(1,10)]`: the same capacity.
  -- The capacity afterwards: only a command that inserts can change it, and only if memory suffices.
  abbrev pub CapacityStep : Contents K V → MapCommand K V → MapReply K V → Contents K V → Type 0
  CapacityStep m (Insert k v) reply n = PutsInRoom k m reply n
  CapacityStep m (InsertFull k v) reply n = PutsInRoom k m reply n
  CapacityStep m (InsertAt i k v) reply n = PutsInRoom k m reply n
  CapacityStep m (InsertKey k v) reply n = PutsInRoom k m reply n
  CapacityStep m (OrInsert k v) reply n = PutsInRoom k m reply n
  CapacityStep m (Append other) NoMemory n = ¬ (HasRoom m (length other.entries)) × (n.capacity ≡ m.capacity)
  CapacityStep m (Append other) reply n = (m.capacity ≤ n.capacity) × (HasRoom m (length other.entries) → n.capacity ≡ m.capacity)
  CapacityStep m command reply n = n.capacity ≡ m.capacity

  -- One command with this reply turns the map m into the map n: the list and what becomes of the capacity.
  abbrev pub Effect : Contents K V → MapCommand K V → MapReply K V → Contents K V → Type 0
  Effect m command reply n = ListStep m.entries command reply n.entries × CapacityStep m command reply n

  -- Example: after `Insert 2 20` on a full map of one pair: a capacity of at least 2.
  -- One command with this reply turns the map m into the map n, whose pairs fit its capacity.
  abbrev pub Step : Contents K V → MapCommand K V → MapReply K V → Contents K V → Type 0
  Step m command reply n = Effect m command reply n × (length n.entries ≤ n.capacity)

  -- Example: `Insert 2 20`, `Remove 1` on `[(1,10)]`: `Value` none, `Value 10`, and `[(2,20)]`.
  -- The commands, in order, turn the map m into the map n with these replies.
  abbrev pub Run : Contents K V → List (MapCommand K V) → List (MapReply K V) → Contents K V → Type 0
  Run m [] [] n = n ≡ m
  Run m (command ∷ commands) (reply ∷ replies) n =
      (next : Contents K V) × Step m command reply next × Run next commands replies n
  Run m [] (reply ∷ replies) n = ⊥
  Run m (command ∷ commands) [] n = ⊥
