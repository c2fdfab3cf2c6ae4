-- What each line of `ListStep`, and of `CapacityStep`, says of maps of two or three pairs. The keys `(1, x)` and `(1, y)` are
-- equal.
use Rattle.std.specs.Prelude.{◌≡◌, ◌<◌, ◌≤◌, ℕ, Bool, List, [], ◌∷◌, None, Option, Some, length, nat_eq, refl, true, ⊤}
use Rattle.std.specs.declared.clone.Clone as clone
use Rattle.vecmap.specs.MapRun.{CapacityStep, Effect, ListStep, PutsInRoom, RepliesPair, RepliesPairs, RepliesValue, Run, Step}
use Rattle.vecmap.specs.{declared.map_run.command.MapCommand.MapCommand, declared.map_run.reply.MapReply.MapReply}
use Rattle.vecmap.specs.declared.map_run.command.MapCommand.TheVariants.{ContainsKey, Equals, First, Get, GetIndex, IndexOf, Last, Len, ToVec, Append, Clear, Insert, InsertAt, InsertFull, InsertKey, OrInsert, Pop, Remove, RemoveEntry, RemoveIndex, Reverse, SplitOff, SwapIndices, SwapRemove, SwapRemoveEntry, SwapRemoveIndex, Truncate}
use Rattle.vecmap.specs.declared.map_run.reply.MapReply.TheVariants.{Done, Full, Kept, Moved, NoMemory, Number, OutOfRange, Pair, Pairs, Place, Rest, Truth, Value}
use Rattle.vecmap_base.specs.Clones.{ArePairClones}
use Rattle.vecmap_map.specs.Contents.{Contents, KeepsRoomAt}

module _ {T : Type 0} (x y : T) (keys : clone.Ghosts (ℕ × T)) (values : clone.Ghosts ℕ) (reply : MapReply (ℕ × T) ℕ) (m : List ((ℕ × T) × ℕ)) (new : Contents (ℕ × T) ℕ) (i j index : ℕ) (found : Option ℕ) (added truth : Bool) (old : Option ℕ) (pair : Option ((ℕ × T) × ℕ)) (moved : Option (ℕ × ℕ)) (rest : Contents (ℕ × T) ℕ) where
  abbrev eq : ℕ × T → ℕ × T → Bool
  eq p q = nat_eq p.0 q.0

  abbrev at : ℕ → Option ℕ
  at i = Some i

  abbrev a : (ℕ × T) × ℕ
  a = ((1, x), 10)

  abbrev b : (ℕ × T) × ℕ
  b = ((2, x), 20)

  abbrev c : (ℕ × T) × ℕ
  c = ((3, x), 30)

  abbrev l : List ((ℕ × T) × ℕ)
  l = a ∷ b ∷ []

  abbrev full : Contents (ℕ × T) ℕ
  full = record { entries = l; capacity = 2 }

  -- The same map as `l`, in another order.
  abbrev same : Contents (ℕ × T) ℕ
  same = record { entries = ((2, y), 20) ∷ ((1, y), 10) ∷ []; capacity = 2 }

  abbrev other : Contents (ℕ × T) ℕ
  other = record { entries = ((1, y), 30) ∷ c ∷ []; capacity = 2 }

  abbrev step : MapCommand (ℕ × T) ℕ → MapReply (ℕ × T) ℕ → Type 0
  step command reply = ListStep eq nat_eq keys values l command reply m

  -- With a third pair, which shows what moves.
  abbrev step3 : MapCommand (ℕ × T) ℕ → MapReply (ℕ × T) ℕ → Type 0
  step3 command reply = ListStep eq nat_eq keys values (a ∷ b ∷ c ∷ []) command reply m

  abbrev in_room : ℕ × T → MapReply (ℕ × T) ℕ → Type 0
  in_room k reply = PutsInRoom eq nat_eq keys values k full reply new

  abbrev capacity : MapCommand (ℕ × T) ℕ → MapReply (ℕ × T) ℕ → Type 0
  capacity command reply = CapacityStep eq nat_eq keys values full command reply new

  insertions :
      (step (Insert (1, y) 30) (Value old) ≡ ((old ≡ Some 10) × (m ≡ ((1, x), 30) ∷ b ∷ [])))
      × (step (Insert (2, y) 30) NoMemory ≡ ((at 1 ≡ None) × (m ≡ l)))
      × (step (InsertFull (2, y) 30) (Full index old) ≡ ((index ≡ 1) × (old ≡ Some 20) × (m ≡ a ∷ ((2, x), 30) ∷ [])))
      × (step (InsertFull (2, y) 30) NoMemory ≡ ((at 1 ≡ None) × (m ≡ l)))
      × (step (InsertAt 1 (1, y) 30) (Moved moved) ≡ ((1 ≤ 2) × (moved ≡ Some (0, 10)) × (m ≡ b ∷ ((1, y), 30) ∷ [])))
      × (step (InsertAt i (1, y) 30) OutOfRange ≡ ((2 < i) × (m ≡ l)))
      × (step (InsertAt i (1, y) 30) NoMemory ≡ ((i ≤ 2) × (at 0 ≡ None) × (m ≡ l)))
      × (step (InsertKey (1, y) 30) (Pair pair) ≡ ((pair ≡ Some a) × (m ≡ ((1, y), 30) ∷ b ∷ [])))
      × (step (InsertKey (1, y) 30) NoMemory ≡ ((at 0 ≡ None) × (m ≡ l)))
      × (step (OrInsert (3, x) 30) (Kept index added) ≡ ((index ≡ 2) × (added ≡ true) × (m ≡ a ∷ b ∷ c ∷ [])))
      × (step (OrInsert (2, y) 30) NoMemory ≡ ((at 1 ≡ None) × (m ≡ l)))
  insertions = (refl, refl, refl, refl, refl, refl, refl, refl, refl, refl, refl)

  lookups :
      (step (Get (2, y)) reply ≡ (RepliesValue values (Some 20) reply × (m ≡ l)))
      × (step (GetIndex 1) reply ≡ (RepliesPair keys values (Some b) reply × (m ≡ l)))
      × (step (IndexOf (2, y)) (Place found) ≡ ((found ≡ Some 1) × (m ≡ l)))
      × (step (ContainsKey (2, y)) (Truth truth) ≡ ((truth ≡ true) × (m ≡ l)))
      × (step First reply ≡ (RepliesPair keys values (Some a) reply × (m ≡ l)))
      × (step Last reply ≡ (RepliesPair keys values (Some b) reply × (m ≡ l)))
      × (step Len (Number index) ≡ ((index ≡ 2) × (m ≡ l)))
      × (step ToVec reply ≡ (RepliesPairs keys values l reply × (m ≡ l)))
      × (step (Equals same) (Truth truth) ≡ ((truth ≡ true) × (m ≡ l)))
  lookups = (refl, refl, refl, refl, refl, refl, refl, refl, refl)

  removals :
      (step (Remove (1, y)) (Value old) ≡ ((old ≡ Some 10) × (m ≡ b ∷ [])))
      × (step (RemoveEntry (1, y)) (Pair pair) ≡ ((pair ≡ Some a) × (m ≡ b ∷ [])))
      × (step3 (SwapRemove (1, y)) (Value old) ≡ ((old ≡ Some 10) × (m ≡ c ∷ b ∷ [])))
      × (step3 (SwapRemoveEntry (1, y)) (Pair pair) ≡ ((pair ≡ Some a) × (m ≡ c ∷ b ∷ [])))
      × (step3 (RemoveIndex 0) (Pair pair) ≡ ((0 < 3) × (pair ≡ Some a) × (m ≡ b ∷ c ∷ [])))
      × (step (RemoveIndex i) OutOfRange ≡ ((2 ≤ i) × (m ≡ l)))
      × (step3 (SwapRemoveIndex 0) (Pair pair) ≡ ((0 < 3) × (pair ≡ Some a) × (m ≡ c ∷ b ∷ [])))
      × (step (SwapRemoveIndex i) OutOfRange ≡ ((2 ≤ i) × (m ≡ l)))
      × (step Pop (Pair pair) ≡ ((pair ≡ Some b) × (m ≡ a ∷ [])))
      × (step Pop Done ≡ ⊥)
  removals = (refl, refl, refl, refl, refl, refl, refl, refl, refl, refl)

  lists :
      (step3 (SwapIndices 0 2) Done ≡ ((0 < 3) × (2 < 3) × (m ≡ c ∷ b ∷ a ∷ [])))
      × (step (SwapIndices i j) OutOfRange ≡ (¬ ((i < 2) × (j < 2)) × (m ≡ l)))
      × (step3 (Truncate 2) Done ≡ (m ≡ l))
      × (step Clear Done ≡ (m ≡ []))
      × (step Reverse Done ≡ (m ≡ b ∷ a ∷ []))
      × (step (Append other) Done ≡ (m ≡ ((1, x), 30) ∷ b ∷ c ∷ []))
      × (step (Append other) NoMemory ≡ ((0 < 2) × (m ≡ l)))
      × (step3 (SplitOff 1) (Rest rest) ≡ ((1 ≤ 3) × (rest.entries ≡ b ∷ c ∷ []) × (m ≡ a ∷ [])))
      × (step (SplitOff i) OutOfRange ≡ ((2 < i) × (m ≡ l)))
      × (step (SplitOff i) NoMemory ≡ ((i < 2) × (m ≡ l)))
  lists = (refl, refl, refl, refl, refl, refl, refl, refl, refl, refl)

  -- The commands that clone reply a clone, or `NoMemory` if the clone can fail.
  clones :
      (step (Get (2, y)) (Value (Some 30)) ≡ (values.is_clone 20 30 × (m ≡ l)))
      × (step (Get (2, y)) NoMemory ≡ (¬ (values.is_infallible 20) × (m ≡ l)))
      × (step (Get (2, y)) Done ≡ (⊥ × (m ≡ l)))
      × (step First (Pair (Some ((1, y), 30))) ≡ ((keys.is_clone (1, x) (1, y) × values.is_clone 10 30) × (m ≡ l)))
      × (step First NoMemory ≡ (¬ (keys.is_infallible (1, x) × values.is_infallible 10) × (m ≡ l)))
      × (step First Done ≡ (⊥ × (m ≡ l)))
      × ((copies : _) → step ToVec (Pairs copies) ≡ (ArePairClones keys.is_clone values.is_clone l copies.items × (m ≡ l)))
      × (step ToVec NoMemory ≡ (⊤ × (m ≡ l)))
      × (step ToVec Done ≡ (⊥ × (m ≡ l)))
  clones = (refl, refl, refl, refl, refl, refl, (λ copies. refl), refl, refl)

  -- The capacity.
  rooms :
      (in_room (2, y) (Value old) ≡ KeepsRoomAt (Some 1) full new)
      × (in_room (3, x) (Value old) ≡ KeepsRoomAt None full new)
      × (in_room (2, y) OutOfRange ≡ (new.capacity ≡ 2))
      × (in_room (2, y) NoMemory ≡ ((2 ≡ full.capacity) × (new.capacity ≡ 2)))
      × (capacity (Insert (2, y) 30) reply ≡ in_room (2, y) reply)
      × (capacity (InsertFull (2, y) 30) reply ≡ in_room (2, y) reply)
      × (capacity (InsertAt i (2, y) 30) reply ≡ in_room (2, y) reply)
      × (capacity (InsertKey (2, y) 30) reply ≡ in_room (2, y) reply)
      × (capacity (OrInsert (2, y) 30) reply ≡ in_room (2, y) reply)
      × (capacity (Append other) Done ≡ ((2 ≤ new.capacity) × (4 ≤ 2 → new.capacity ≡ 2)))
      × (capacity (Append other) NoMemory ≡ (¬ (4 ≤ 2) × (new.capacity ≡ 2)))
      × (capacity (Get (2, y)) reply ≡ (new.capacity ≡ 2))
  rooms = (refl, refl, refl, refl, refl, refl, refl, refl, refl, refl, refl, refl)

  -- Both together, and commands in order.
  runs :
      (Effect eq nat_eq keys values full Reverse Done new ≡ ((new.entries ≡ b ∷ a ∷ []) × (new.capacity ≡ 2)))
      × (Step eq nat_eq keys values full Clear Done new ≡ (((new.entries ≡ []) × (new.capacity ≡ 2)) × (length new.entries ≤ new.capacity)))
      × (Run eq nat_eq keys values full [] [] new ≡ (new ≡ full))
      × (Run eq nat_eq keys values full (Reverse ∷ []) (reply ∷ []) new ≡ ((next : Contents (ℕ × T) ℕ) × Step eq nat_eq keys values full Reverse reply next × (new ≡ next)))
      × (Run eq nat_eq keys values full (Reverse ∷ []) [] new ≡ ⊥)
      × (Run eq nat_eq keys values full [] (reply ∷ []) new ≡ ⊥)
  runs = (refl, refl, refl, refl, refl, refl)
