-- What a contract sees of a `VecSet`, and what calls say of its capacity. In the examples, `set_of l n` is the set
-- with the elements `l` and the capacity `n`, and `done` and `failed` are results of calls.
use Rattle.std.specs.Prelude.{◌≡◌, ◌++◌, ◌∷◌, [], ◌+◌, ◌<◌, ◌≤◌, ◌⊎◌, ℕ, Bool, IsOk, IsSome, IsTrue, List, None, OnErr, OnOk, Option, Result, false, length}
use Rattle.std.specs.{List.IsDistinct, Set.is_member}
use Rattle.vecmap_base.specs.declared.refused.Refused.{Refused}

-- The elements from the first to the last, and how many of them fit before the vector grows.
pub record Contents (T : Type 0) : Type 0 where
  pub elements : List T
  pub capacity : ℕ

module _ {T : Type 0} where
  -- Example: `with_elements (set_of [] 4) [a] ≡ set_of [a] 4`.
  -- The set s with other elements.
  abbrev pub with_elements : Contents T → List T → Contents T
  with_elements s l = record { elements = l; capacity = s.capacity }

  -- Example: `HasRoom (set_of [a] 2) 1`; `¬ (HasRoom (set_of [a] 2) 2)`.
  -- Another n elements fit before the vector grows.
  abbrev pub HasRoom : Contents T → ℕ → Type 0
  HasRoom s n = length s.elements + n ≤ s.capacity

  -- Example: `IsFull (set_of [a] 1)`; `¬ (IsFull (set_of [a] 2))`.
  -- The set is full: no more elements fit before the vector grows.
  abbrev pub IsFull : Contents T → Type 0
  IsFull s = length s.elements ≡ s.capacity

  -- Example: `KeepsRoomAt None (set_of [a] 1) (set_of [a, b] 4)`.
  -- Example: `¬ (KeepsRoomAt None (set_of [a] 2) (set_of [a, b] 4))`.
  -- Example: `¬ (KeepsRoomAt (Some 0) (set_of [a] 1) (set_of [a] 2))`.
  -- Example: `¬ (KeepsRoomAt None (set_of [a] 1) (set_of [a] 0))`.
  -- The capacity does not shrink, and stays if the element has an index or if one more element fits.
  pub record KeepsRoomAt (index : Option ℕ) (old new : Contents T) : Type 0 where
    pub capacity : old.capacity ≤ new.capacity
    pub present : IsSome index → new.capacity ≡ old.capacity
    pub spare : HasRoom old 1 → new.capacity ≡ old.capacity

  -- An element that was made was appended.
  abbrev pub Appends : (T → Type 0) → Contents T → Contents T → Type 0
  Appends made old new = (item : T) × made item × (new.elements ≡ old.elements ++ item ∷ [])

  -- Example: of a made element on a full `[]` for `AllocError`: that error.
  -- The set is full, and a `Refused` with an element that was made became the error.
  abbrev pub FailsToAppend : {E : Type 0} → (Refused T → E → Type 0) → (T → Type 0) → Contents T → E → Type 0
  FailsToAppend becomes made old error = (item : T) × made item × IsFull old × becomes (record { given = item }) error

module _ {T : Type 0} (eq : T → T → Bool) where
  -- Example: `Empties nat_eq (set_of [1] 2) (set_of [] 2)`; `¬ (Empties nat_eq (set_of [1] 2) (set_of [] 0))`.
  -- The set is empty, with its old capacity.
  pub record Empties (old new : Contents T) : Type 0 where
    pub emptied : new ≡ with_elements old []
    pub distinct : IsDistinct eq new.elements

  -- Example: `Stays nat_eq (set_of [1] 2) (set_of [1] 2)`; `¬ (Stays nat_eq (set_of [1] 2) (set_of [1] 4))`.
  -- The set is unchanged, also its capacity.
  pub record Stays (old new : Contents T) : Type 0 where
    pub unchanged : new ≡ old
    pub distinct : IsDistinct eq new.elements

  -- Example: of a closure that fails with `AllocError`: the same set, and that error.
  -- An element was to be made and appended, and that failed: the set is unchanged, nothing matched, and `made` or memory failed.
  pub record FailsToInsert {E : Type 0} (becomes : Refused T → E → Type 0) (made : T → Type 0) (failed : E → Type 0) (index : Option ℕ) (old new : Contents T) (error : E) : Type 0 where
    pub unchanged : new ≡ old
    pub distinct : IsDistinct eq new.elements
    pub absent : index ≡ None
    pub cause : failed error ⊎ FailsToAppend becomes made old error

  -- Example: `Reserves nat_eq 1 (set_of [1] 1) done (set_of [1] 2)`.
  -- Example: `¬ (Reserves nat_eq 1 (set_of [1] 1) done (set_of [] 2))`.
  -- Example: `¬ (Reserves nat_eq 1 (set_of [1] 1) done (set_of [1] 1))`.
  -- Example: `¬ (Reserves nat_eq 0 (set_of [1] 0) failed (set_of [1] 0))`.
  -- Example: `¬ (Reserves nat_eq 1 (set_of [1] 2) failed (set_of [1] 2))`.
  -- Example: `¬ (Reserves nat_eq 1 (set_of [1] 2) done (set_of [1] 4))`.
  -- Example: `¬ (Reserves nat_eq 1 (set_of [1] 1) failed (set_of [1] 2))`.
  -- What a call that reserves capacity for `additional` more elements returns and leaves.
  pub record Reserves {A E : Type 0} (additional : ℕ) (old : Contents T) (result : Result A E) (new : Contents T) : Type 0 where
    -- What stays, and how much fits afterwards.
    pub elements : new.elements ≡ old.elements
    pub distinct : IsDistinct eq new.elements
    pub room : OnOk result (HasRoom new additional)
    pub capacity : old.capacity ≤ new.capacity
    -- When the call succeeds, and what it leaves if it has nothing to do, or fails.
    pub some : OnErr result (0 < additional)
    pub succeeds : HasRoom old additional → IsOk result
    pub unchanged : HasRoom old additional → new ≡ old
    pub err : OnErr result (new ≡ old)

  -- Example: `KeepsRoom nat_eq (set_of [1] 2) 2 (set_of [1, 2] 2)`.
  -- Example: `¬ (KeepsRoom nat_eq (set_of [1] 2) 2 (set_of [1, 2] 4))`.
  -- Example: `¬ (KeepsRoom nat_eq (set_of [1] 1) 1 (set_of [1] 2))`.
  -- Example: `¬ (KeepsRoom nat_eq (set_of [1] 1) 2 (set_of [1] 0))`.
  -- The capacity does not shrink, and stays if an equal element is present or if one more element fits.
  pub record KeepsRoom (old : Contents T) (x : T) (new : Contents T) : Type 0 where
    pub capacity : old.capacity ≤ new.capacity
    pub present : IsTrue (is_member eq old.elements x) → new.capacity ≡ old.capacity
    pub spare : HasRoom old 1 → new.capacity ≡ old.capacity

  -- Example: `Refuses nat_eq (set_of [1] 1) 2 (set_of [1] 1)`; `¬ (Refuses nat_eq (set_of [1] 1) 1 (set_of [1] 1))`.
  -- Example: `¬ (Refuses nat_eq (set_of [1] 2) 2 (set_of [1] 2))`; `¬ (Refuses nat_eq (set_of [1] 1) 2 (set_of [] 1))`.
  -- Memory ran out for the element x: the set is unchanged, no equal element is present, and the set is full.
  pub record Refuses (old : Contents T) (x : T) (new : Contents T) : Type 0 where
    pub unchanged : new ≡ old
    pub distinct : IsDistinct eq new.elements
    pub absent : is_member eq old.elements x ≡ false
    pub full : IsFull old
