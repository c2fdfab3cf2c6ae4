-- What the calls that add or copy many elements at once leave. The field on the whole list comes first, and the others
-- follow from it. `eq` is the `==` of the elements. In the examples, `1x` and `1y` are elements that `eq` calls equal, and
-- are not the same.
use Rattle.std.specs.Prelude.{◌≡◌, ◌+◌, ◌++◌, ◌<◌, ◌≤◌, ◌||◌, Bool, Contains, IsTrue, List, OnErr, OnOk, Option, Result, [], length, map}
use Rattle.std.specs.{Iterator.Count, List.{IsDistinct, list_any}, Map.IsKeyTest, Set.is_member}
use Rattle.vecmap_base.specs.{Bulk.{HasRoomForAll, StopsAt}, Clones.AreClones, Equality.has_same_items, Items.{adds, both}}
use Rattle.vecmap_set.specs.{SetContents.{Contents, HasRoom, Refuses}, SetIndices.KeepsMatchIndices}

module _ {T U S A E : Type 0} (becomes : U → S → Type 0) (steps : S → Option A → S → Type 0) (left : S → Count) where
  -- Example: of `2` on a full `[1]`, if allocation fails: the same set.
  -- The capacity after a call that adds the items of `iter`, what the call leaves on `Err`, and where the old elements are.
  pub record Extends (eq : T → T → Bool) (refuses : Contents T → Contents T → List A → A → Type 0) (iter : U) (old : Contents T) (result : Result (Unit {0}) E) (new : Contents T) : Type 0 where
    pub capacity : old.capacity ≤ new.capacity
    pub capacity_stays : HasRoomForAll becomes left iter (HasRoom old) → new.capacity ≡ old.capacity
    pub err : OnErr result (StopsAt becomes steps iter (refuses old new))
    pub distinct : IsDistinct eq new.elements
    pub indices : OnOk result (KeepsMatchIndices old.elements new.elements)

module _ {T : Type 0} (eq : T → T → Bool) where
  -- Example: `HaveSameItems nat_eq [1, 2] [2, 1]`; `¬ (HaveSameItems nat_eq [1] [])`.
  -- The lists `a` and `b`, which are distinct, have the same elements.
  pub record HaveSameItems (a b : List T) : Type 0 where
    pub members : (q : T) → is_member eq a q ≡ is_member eq b q
    pub queries : (test : T → Bool) → IsKeyTest eq test → list_any test a ≡ list_any test b
    pub len : length a ≡ length b

  -- Example: `AddsItems eq [1x] [1y, 2x] [1x, 2x]`; `¬ (AddsItems eq [1x] [1y, 2x] [1x, 1y, 2x])`.
  -- The list `r` is the list `s` after insertions of all of `xs`, in order: an equal element stays, and a new one is appended.
  pub record AddsItems (s xs r : List T) : Type 0 where
    pub elements : r ≡ adds eq s xs
    pub distinct : IsDistinct eq r
    -- Which elements are present, how many there are, and where the old ones are.
    pub members : (q : T) → is_member eq r q ≡ (is_member eq s q || is_member eq xs q)
    pub len : (length s ≤ length r) × (length r ≤ length s + length xs)
    pub not_empty : 0 < length xs → 0 < length r
    pub indices : KeepsMatchIndices s r
    -- If no two elements are equal, all are appended.
    pub as_given : IsDistinct eq (s ++ xs) → r ≡ s ++ xs

  -- Example: `JoinsItems nat_eq [1] [1, 2] [1, 2]`; `¬ (JoinsItems nat_eq [1] [1, 2] [1, 1, 2])`.
  -- The same, if the lists `s` and `xs` are the elements of two sets.
  pub record JoinsItems (s xs r : List T) : Type 0 where
    pub added : AddsItems s xs r
    -- There are at least as many as in either set, and as many as in both together if these are disjoint.
    pub enough : length xs ≤ length r
    pub apart : both eq s xs ≡ [] → length r ≡ length s + length xs

  -- Example: `AddsClones nat_eq copy [1, 1] [1]`; `¬ (AddsClones nat_eq copy [1] [1, 1])`.
  -- The list `r` is the empty list after insertions of clones of all of `xs`, in order.
  pub record AddsClones (is_clone : T → T → Type 0) (xs r : List T) : Type 0 where
    pub elements : (clones : List T) × AreClones is_clone xs clones × (r ≡ adds eq [] clones)
    pub distinct : IsDistinct eq r
    -- Which elements are present, if each clone is equal to its original, and how many there are.
    pub members : ((x y : T) → Contains xs x → is_clone x y → IsTrue (eq x y)) → (q : T) → is_member eq r q ≡ is_member eq xs q
    pub len : length r ≤ length xs

  -- Example: `CopiesItems nat_eq copy [1, 2] [1, 2]`; `¬ (CopiesItems nat_eq copy [1, 2] [1])`.
  -- The list `r` has a clone of each element of `s`, in order, and a clone is equal to its original.
  pub record CopiesItems (is_clone : T → T → Type 0) (s r : List T) : Type 0 where
    pub elements : AreClones is_clone s r
    pub distinct : IsDistinct eq r
    -- Which elements are present, how many there are, and that both lists are equal as sets.
    pub members : (q : T) → is_member eq r q ≡ is_member eq s q
    pub len : length r ≡ length s
    pub equal : IsTrue (has_same_items eq r s)

  -- Example: `Adds nat_eq (set_of [1] 4) [2, 1, 3] (set_of [1, 2, 3] 4)`.
  -- Example: `¬ (Adds nat_eq (set_of [1] 4) [2] (set_of [1] 4))`.
  -- The new set has the elements of the old one, to which the items were added in order.
  abbrev pub Adds : Contents T → List T → Contents T → Type 0
  Adds old items new = new.elements ≡ adds eq old.elements items

  -- Example: `AddsCopies nat_eq suc (set_of [1] 4) [1, 0] (set_of [1, 2] 4)`.
  -- Copies of the elements that `view` sees in the items were added, in order.
  abbrev pub AddsCopies : {A : Type 0} → (A → T) → Contents T → List A → Contents T → Type 0
  AddsCopies view old items new = Adds old (map view items) new

  -- Example: `GrowsDistinct nat_eq (Adds nat_eq) (set_of [1] 2) [2] (set_of [1, 2] 2)`.
  -- Example: `¬ (GrowsDistinct nat_eq (Adds nat_eq) (set_of [1] 2) [2] (set_of [1, 2] 1))`.
  -- Items turn the old set into the new one, as `gives` says. No elements are equal, and the capacity is not lower.
  abbrev pub GrowsDistinct : {A : Type 0} → (Contents T → List A → Contents T → Type 0) → Contents T → List A → Contents T → Type 0
  GrowsDistinct gives old items new = gives old items new × IsDistinct eq new.elements × (old.capacity ≤ new.capacity)

  -- Example: `RefusesAfter nat_eq (set_of [1] 2) (set_of [1, 2] 2) [2] 3`.
  -- Example: `¬ (RefusesAfter nat_eq (set_of [1] 2) (set_of [1, 2] 2) [2] 1)`.
  -- The items were added, and then memory ran out for `next`.
  abbrev pub RefusesAfter : Contents T → Contents T → List T → T → Type 0
  RefusesAfter old new items next = Adds old items new × Refuses eq new next new

  -- Example: `RefusesCopiesAfter nat_eq suc (set_of [1] 2) (set_of [1, 2] 2) [1] 2`.
  -- Copies of the elements that `view` sees in the items were added, and then memory ran out for the copy of `next`.
  abbrev pub RefusesCopiesAfter : {A : Type 0} → (A → T) → Contents T → Contents T → List A → A → Type 0
  RefusesCopiesAfter view old new items next = RefusesAfter old new (map view items) (view next)
