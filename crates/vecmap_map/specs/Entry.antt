-- What contracts see of an entry: the map, the key that was passed to `entry`, and the index of that key. In the
-- examples, `r` is a reference to a map. `occupied r k p` is the entry of the key `k` in a map of the pair `p`, and
-- `vacant r k l` in a map of the pairs `l`.
use Rattle.std.specs.{Prelude.{◌≡◌, ℕ, List, [], ◌∷◌, ◌++◌, Option, None, Some, length, remove, slice_get, unwrap_or}, Borrow.MutBor}
use Rattle.std.specs.Option.{option_and_then, option_map_or}
use Rattle.vecmap_base.specs.{Items.swap_without, Pairs.{value_at, with_value}, declared.refused.Refused.Refused}
use Rattle.vecmap_map.specs.{Contents.{Contents, IsFull, KeepsRoomAt, with_value_at}, EntryWithin.still_within, declared.entry.Entry.Entry}
use Rattle.vecmap_map.specs.{declared.entry.Entry.TheVariants.{Occupied, Vacant}, declared.entry.occupied.OccupiedEntry.OccupiedEntry}

module _ {K V : Type 0} where
  -- The reference to the map.
  abbrev pub entry_ref : Entry K V → MutBor (Contents K V)
  entry_ref (Occupied o) = o.map
  entry_ref (Vacant e) = e.map

  -- Example: `entry_map (occupied r 1y (1x, a)) ≡ map_of [(1x, a)] 1`.
  -- The map, as the entry holds it.
  abbrev pub entry_map : Entry K V → Contents K V
  entry_map e = (entry_ref e).now

  -- Example: `entry_key (occupied r 1y (1x, a)) ≡ 1y`; `entry_key (vacant r 1y []) ≡ 1y`.
  -- The key that was passed to `entry`.
  abbrev pub entry_key : Entry K V → K
  entry_key (Occupied o) = o.key
  entry_key (Vacant e) = e.key

  -- Example: `entry_index_of (occupied r 1y (1x, a)) ≡ Some 0`; `entry_index_of (vacant r 1y []) ≡ None`.
  -- The index of the key, if it has one.
  abbrev pub entry_index_of : Entry K V → Option ℕ
  entry_index_of (Occupied o) = Some o.index
  entry_index_of (Vacant e) = None

  -- Example: `entry_index (occupied r 1y (1x, a)) ≡ 0`; `entry_index (vacant r 1y [(2x, a)]) ≡ 1`.
  -- The index of the key, or the index that it will get.
  abbrev pub entry_index : Entry K V → ℕ
  entry_index e = unwrap_or (entry_index_of e) (length (entry_map e).entries)

  -- Example: `entry_value (occupied r 1y (1x, a)) ≡ Some a`; `entry_value (vacant r 1y []) ≡ None`.
  -- The value of the key, if it has one.
  abbrev pub entry_value : Entry K V → Option V
  entry_value e = option_and_then (value_at (entry_map e).entries) (entry_index_of e)

  -- Example: `entry_pair (occupied r 1y (1x, a)) ≡ Some (1x, a)`.
  -- The stored pair of the key, if it has one.
  abbrev pub entry_pair : Entry K V → Option (K × V)
  entry_pair e = option_and_then (slice_get (entry_map e).entries) (entry_index_of e)

  -- Example: `entries_with (occupied r 1y (1x, a)) b ≡ [(1x, b)]`; `entries_with (vacant r 1y []) b ≡ [(1y, b)]`.
  -- The pairs after v is set as the value of the key. It replaces an existing value, and a new pair is appended.
  abbrev pub entries_with : Entry K V → V → List (K × V)
  entries_with e v = option_map_or (λ i. with_value (entry_map e).entries i v) (entry_index_of e) ((entry_map e).entries ++ (entry_key e, v) ∷ [])

  -- Example: `entries_without (occupied r 1y (1x, a)) ≡ []`; `entries_without (vacant r 1y [(2x, a)]) ≡ [(2x, a)]`.
  -- The pairs without the pair of the key, if it has one. The index of each later pair decreases by one.
  abbrev pub entries_without : Entry K V → List (K × V)
  entries_without e = option_map_or (remove (entry_map e).entries) (entry_index_of e) (entry_map e).entries

  -- Example: `entries_swap_without (occupied r 1y (1x, a)) ≡ []`.
  -- The pairs without the pair of the key, if it has one. The last pair moves to its index.
  abbrev pub entries_swap_without : Entry K V → List (K × V)
  entries_swap_without e = option_map_or (swap_without (entry_map e).entries) (entry_index_of e) (entry_map e).entries

  -- Example: before and after `and_modify`: a write of 9 leaves `[(1x,9)]` through either.
  -- A later write or removal through d leaves the same pairs as one through e.
  pub record LeavesSame (e d : Entry K V) : Type 0 where
    pub write : (v : V) → entries_with d v ≡ entries_with e v
    pub removal : entries_without d ≡ entries_without e
    pub swap_removal : entries_swap_without d ≡ entries_swap_without e

  -- Example: the entry of `1y` on `[(1x,7)]` and 9: the entry of `1y` on `[(1x,9)]`.
  -- The entry o with v as its value.
  abbrev pub occupied_with : OccupiedEntry K V → V → OccupiedEntry K V
  occupied_with o v = record o { map = record o.map { now = with_value_at o.map.now o.index v }; within = still_within o v }

  -- Example: `or_try_insert_with` of `1y` on a full `[]` for `AllocError`: that error.
  -- The map is full, and a `Refused` with the key of e and a made value became the error.
  abbrev pub RefusesMade : {E : Type 0} → (Refused (K × V) → E → Type 0) → (V → Type 0) → Entry K V → E → Type 0
  RefusesMade becomes made e error = (v : V) × made v × IsFull (entry_map e) × becomes (record { given = (entry_key e, v) }) error

  -- Example: `AreEntriesWith copy (occupied r 1y (1x, a)) b [(1x, b)]`.
  -- Example: `¬ (AreEntriesWith copy (vacant r 1y []) b [])`.
  -- Example: of `1y` on `[]` and 9: `[(c,9)]` for a clone `c` of `1y`.
  -- The list l has the pairs after v is set as the value of the key of e. A vacant entry stores a clone of the key.
  abbrev pub AreEntriesWith : (K → K → Type 0) → Entry K V → V → List (K × V) → Type 0
  AreEntriesWith is_clone (Occupied o) v l = l ≡ entries_with (Occupied o) v
  AreEntriesWith is_clone (Vacant e) v l = (k : K) × is_clone e.key k × (l ≡ e.map.now.entries ++ (k, v) ∷ [])

  -- The entry o is what `insert_entry` of v at e returns. So what a later write or removal through o leaves follows from
  -- its pairs and its index.
  pub record IsInserted (is_clone : K → K → Type 0) (e : Entry K V) (v : V) (o : OccupiedEntry K V) : Type 0 where
    -- The entry: the reference to the map, the key, its index and its value.
    pub same_map : o.map.ghost_name ≡ (entry_ref e).ghost_name
    pub key : o.key ≡ entry_key e
    pub index : o.index ≡ entry_index e
    pub value : entry_value (Occupied o) ≡ Some v
    -- The map that it holds.
    pub entries : AreEntriesWith is_clone e v o.map.now.entries
    pub capacity : KeepsRoomAt (entry_index_of e) (entry_map e) o.map.now
