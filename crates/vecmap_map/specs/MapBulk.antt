-- What calls that insert many pairs leave.
use Rattle.std.specs.{Prelude.{◌≡◌, ◌<◌, ◌≤◌, ◌⊎◌, Bool, List, [], OnErr, Option, Result, length, map, true}, Cmp.IsEquivalence, Iterator.Count, Map.IsKeyTest}
use Rattle.std.specs.declared.clone.Clone as clone
use Rattle.vecmap_base.specs.{Bulk.{HasRoomForAll, HasRoomForHalf, StopsAt}, Clones.{ArePairClones, ClonesAreSame}, Lookups.MakesPairs, Pairs.{HasDistinctKeys, lookup_by, puts}}
use Rattle.vecmap_map.specs.Contents.{Contents, HasRoom, Refuses}

module _ {K V : Type 0} where
  -- Example: `Grows (Puts nat_eq) (map_of [] 2) [(1, a)] (map_of [(1, a)] 2)`.
  -- Example: `¬ (Grows (Puts nat_eq) (map_of [] 2) [(1, a)] (map_of [(1, a)] 1))`.
  -- Insertions of items turn old into new, as `gives` says, and the capacity is not lower.
  abbrev pub Grows : {A : Type 0} → (Contents K V → List A → Contents K V → Type 0) → Contents K V → List A → Contents K V → Type 0
  Grows gives old items new = gives old items new × (old.capacity ≤ new.capacity)

module _ {K V U T A E : Type 0} (becomes : U → T → Type 0) (steps : T → Option A → T → Type 0) (left : T → Count) where
  -- On `Err` the reservation failed, and nothing has changed, or the call stopped at an item that could not be stored.
  -- With spare capacity for half of the items in a map that is not empty, the reservation cannot fail.
  -- Example: of `(2,b)` on a full `[(1,a)]`, if allocation fails: the same map.
  -- The capacity after a call that inserts the items of `iter`, and what the call leaves on `Err`. Distinct keys stay distinct.
  pub record Extends (eq : K → K → Bool) (refuses : Contents K V → Contents K V → List A → A → Type 0) (iter : U) (old : Contents K V) (result : Result (Unit {0}) E) (new : Contents K V) : Type 0 where
    -- The capacity.
    pub capacity : old.capacity ≤ new.capacity
    pub capacity_stays : HasRoomForAll becomes left iter (HasRoom old) → new.capacity ≡ old.capacity
    -- What is left on `Err`, and whether keys stay distinct.
    pub err : OnErr result ((new ≡ old) ⊎ StopsAt becomes steps iter (refuses old new))
    pub distinct : HasDistinctKeys eq old.entries → HasDistinctKeys eq new.entries
    pub late_err : 0 < length old.entries → HasRoomForHalf becomes left iter (HasRoom old) → OnErr result (StopsAt becomes steps iter (refuses old new))

-- Example: from `[(1x,a)]` to `[(1y,b)]`.
-- The list `m` has a clone of each pair of the list `l`, in order.
pub record CopiesPairs {K V : Type 0} (key_clone : K → K → Type 0) (value_clone : V → V → Type 0) (l m : List (K × V)) : Type 0 where
  pub entries : ArePairClones key_clone value_clone l m
  pub same : ClonesAreSame key_clone → ClonesAreSame value_clone → m ≡ l
  -- What queries find if each clone of a key is equal to it, and each clone of a value is the same.
  pub lookups : ClonesAreSame value_clone → (test : K → Bool) (eq : K → K → Bool) → IsEquivalence eq → ((x y : K) → key_clone x y → eq x y ≡ true) → IsKeyTest eq test → lookup_by test m ≡ lookup_by test l

-- Example: `MakesClones nat_eq copy copy [(1, a), (1, b)] (map_of [(1, b)] 2)`.
-- Example: `¬ (MakesClones nat_eq copy copy [] (map_of [(1, b)] 2))`.
-- The map `m` is what insertions of clones of `pairs` make, with capacity for all of them.
pub record MakesClones {K V : Type 0} (eq : K → K → Bool) (key_clone : K → K → Type 0) (value_clone : V → V → Type 0) (pairs : List (K × V)) (m : Contents K V) : Type 0 where
  pub entries : (clones : List (K × V)) × ArePairClones key_clone value_clone pairs clones × (m.entries ≡ puts eq [] clones)
  -- If each clone is the same as its original, this is what insertions of `pairs` make.
  pub same : ClonesAreSame key_clone → ClonesAreSame value_clone → MakesPairs eq pairs m.entries
  pub distinct : HasDistinctKeys eq m.entries
  pub len : length m.entries ≤ length pairs
  pub capacity : length pairs ≤ m.capacity

module _ {K V : Type 0} (eq : K → K → Bool) where
  -- Example: `Puts eq (map_of [(1x, a)] 4) [(1y, b), (2x, c)] (map_of [(1x, b), (2x, c)] 4)`.
  -- Example: `¬ (Puts eq (map_of [(1x, a)] 4) [(2x, b)] (map_of [(1x, a)] 4))`.
  -- Insertions of the pairs, in order, turn old into new.
  abbrev pub Puts : Contents K V → List (K × V) → Contents K V → Type 0
  Puts old pairs new = new.entries ≡ puts eq old.entries pairs

  -- Example: `[]`, then references to `[(1,a)]`: `[(1,a)]`.
  -- Insertions of clones of the pairs that `view` sees in the items, in order, turn old into new.
  abbrev pub PutsClones : {A : Type 0} → (K → K → Type 0) → (V → V → Type 0) → (A → K × V) → Contents K V → List A → Contents K V → Type 0
  PutsClones key_clone value_clone view old items new = (clones : List (K × V)) × ArePairClones key_clone value_clone (map view items) clones × Puts old clones new

  -- Example: `RefusesAfter nat_eq (map_of [(1, a)] 2) (map_of [(1, a), (2, b)] 2) [(2, b)] (3, c)`.
  -- Example: `¬ (RefusesAfter nat_eq (map_of [(1, a)] 2) (map_of [(1, a), (2, b)] 2) [(2, b)] (1, c))`.
  -- The pairs were inserted, and then memory ran out for `next`.
  abbrev pub RefusesAfter : Contents K V → Contents K V → List (K × V) → K × V → Type 0
  RefusesAfter old new pairs next = Puts old pairs new × Refuses eq new next.0 new

  -- If the clones of `next` cannot fail, a clone of its key is new and the map is full.
  -- Example: from `[(1,a)]` with capacity 2, of references to `(2,b)` and then `(3,c)`: `[(1,a), (2,b)]`.
  -- Clones of the pairs that `view` sees in the items were inserted, and then memory ran out for `next`.
  abbrev pub RefusesClonesAfter : {A : Type 0} → clone.Ghosts K → clone.Ghosts V → (A → K × V) → Contents K V → Contents K V → List A → A → Type 0
  RefusesClonesAfter keys values view old new items next = PutsClones keys.is_clone values.is_clone view old items new
      × (keys.is_infallible (view next).0 → values.is_infallible (view next).1 → (k : K) × keys.is_clone (view next).0 k × Refuses eq new k new)
