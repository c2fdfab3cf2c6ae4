-- What laws say of unions, intersections and differences. `eq` is the `==` of the elements. A list such as `only` or
-- `union_of` is computed with it from the elements of two sets.
use Rattle.std.specs.{Prelude.{◌≡◌, ◌+◌, Bool, IsTrue, List, length}, List.IsDistinct, Set.is_member}
use Rattle.vecmap_base.specs.Equality.{has_same_items}
use Rattle.vecmap_set.specs.Lazy.{filtered_of_shorter, filtered_rest, longer_first, union_rest}

module _ {T : Type 0} (eq : T → T → Bool) where
  -- Example: `lazy_intersection nat_eq [1, 2, 3] [3, 1] ≡ [3, 1]`.
  -- What the call `intersection` yields: the elements of the shorter list that are in the other.
  abbrev pub lazy_intersection : List T → List T → List T
  lazy_intersection a b = filtered_rest (is_member eq) (filtered_of_shorter a b)

  -- Example: `lazy_union nat_eq [1] [2, 1] ≡ [2, 1]`.
  -- What the call `union` yields: all of the longer list, and then the elements of the other that are not in it.
  abbrev pub lazy_union : List T → List T → List T
  lazy_union a b = union_rest eq (longer_first a b)

  -- The list of two sets is a set: no two of its elements are equal.
  abbrev pub MakesSets : ((T → T → Bool) → List T → List T → List T) → Type 0
  MakesSets list = (a b : List T) → IsDistinct eq a → IsDistinct eq b → IsDistinct eq (list eq a b)

  -- The lists are equal as sets, whichever of the two sets comes first.
  abbrev pub IgnoresSides : ((T → T → Bool) → List T → List T → List T) → Type 0
  IgnoresSides list = (a b : List T) → IsTrue (has_same_items eq (list eq a b) (list eq b a))

  -- The two lists are equal as sets.
  abbrev pub AgreeAsSets : ((T → T → Bool) → List T → List T → List T) → ((T → T → Bool) → List T → List T → List T) → Type 0
  AgreeAsSets one two = (a b : List T) → IsTrue (has_same_items eq (one eq a b) (two eq a b))

  -- The lengths of the two lists add up to the lengths of the two sets.
  abbrev pub LengthsAddUp : ((T → T → Bool) → List T → List T → List T) → ((T → T → Bool) → List T → List T → List T) → Type 0
  LengthsAddUp one two = (a b : List T) → IsDistinct eq a → IsDistinct eq b → length (one eq a b) + length (two eq a b) ≡ length a + length b
