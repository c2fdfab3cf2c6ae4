-- What the operators on two sets create. `eq` is the `==` of the elements.
use Rattle.std.specs.Prelude.{◌≡◌, ◌+◌, ◌≤◌, Bool, Contains, IfOk, IsTrue, List, ◌++◌, Option, Result, false, length, map, true}
use Rattle.std.specs.{Borrow.Bor, Iterator.Drains, List.{IsDistinct, list_any}, Map.IsKeyTest, Map.Iter.deref, Set.is_member}
use Rattle.vecmap_base.specs.{Clones.AreClones, Items.only}
use Rattle.vecmap_set.specs.SetContents.{Contents}

module _ {T : Type 0} (eq : T → T → Bool) where
  -- Example: `union_of nat_eq [1, 2] [3, 2] ≡ [1, 2, 3]`.
  -- All of a, and then the elements of b that are not in a.
  abbrev pub union_of : List T → List T → List T
  union_of a b = a ++ only eq b a

  -- Example: `symmetric_difference_of nat_eq [1, 2] [3, 2] ≡ [1, 3]`.
  -- The elements of a that are not in b, and then the elements of b that are not in a.
  abbrev pub symmetric_difference_of : List T → List T → List T
  symmetric_difference_of a b = only eq a b ++ only eq b a

-- `list` is one of the lists above, computed with the `==` of the elements from the elements of two sets.
module _ {T : Type 0} (eq : T → T → Bool) (is_clone : T → T → Type 0) (list : (T → T → Bool) → List T → List T → List T) where
  -- Example: true of a list of numbers, whose clones are the numbers themselves.
  -- A clone of an element of that list is equal to it.
  abbrev pub ClonesStaySame : Contents T → Contents T → Type 0
  ClonesStaySame a b = (x y : T) → Contains (list eq a.elements b.elements) x → is_clone x y → IsTrue (eq x y)

  -- Example: of `both` and `[3,2,1] & [1,2]`: clones of `[2,1]`.
  -- On `Ok`, the set has clones of that list, in its order, and no two of them are equal.
  abbrev pub MakesClones : {E : Type 0} → Contents T → Contents T → Result (Contents T) E → Type 0
  MakesClones a b r = IfOk r (λ set. AreClones is_clone (list eq a.elements b.elements) set.elements × IsDistinct eq set.elements)

-- Example: `CombinesMembers nat_eq ◌||◌ [1] [2] [1, 2]`; `¬ (CombinesMembers nat_eq ◌||◌ [1] [] [1, 2])`.
-- The list `r` has an element, or a match of a query, exactly if `combine` says so of its presence in `a` and in `b`.
pub record CombinesMembers {T : Type 0} (eq : T → T → Bool) (combine : Bool → Bool → Bool) (a b r : List T) : Type 0 where
  -- Which elements and queries match, and how many elements there are.
  pub members : (q : T) → is_member eq r q ≡ combine (is_member eq a q) (is_member eq b q)
  pub queries : (test : T → Bool) → IsKeyTest eq test → list_any test r ≡ combine (list_any test a) (list_any test b)
  pub len : length r ≤ length a + length b
  pub part : combine false true ≡ false → length r ≤ length a

-- The list made has clones of all the items that an iterator in the state s returns.
abbrev pub DrainsIntoClones : {S T : Type 0} → (S → Option (Bor T) → S → Type 0) → (T → T → Type 0) → S → List T → Type 0
DrainsIntoClones {T = T} steps is_clone s made = (items : List (Bor T)) × Drains steps s items × AreClones is_clone (map deref items) made
