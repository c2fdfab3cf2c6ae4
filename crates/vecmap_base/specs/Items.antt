-- Lists of elements, as an ordered set sees them. `eq` is the `==` of elements. In the examples, `1x` and `1y` are
-- elements that `eq` calls equal, and are not the same.
use Rattle.std.specs.Prelude.{◌≡◌, ℕ, Bool, IsTrue, List, [], ◌∷◌, ◌++◌, Option, if◌then◌else◌, filter, fold, insert, length, not, position, remove, slice_get, slice_set}
use Rattle.std.specs.{Cmp.IsEquivalence, List.{list_any, swap_remove}, List.Sorted.IsPermutation, Option.{option_and_then, option_map_or}}
use Rattle.std.specs.Set.{is_member}
use Rattle.vecmap_base.specs.Equality.{has_same_items}

-- Example: `swap_without [a, b, c] 0 ≡ [c, b]`.
-- The list `s` without the element at the index `i`; the last element moves to its index.
abbrev pub swap_without : {T : Type 0} → List T → ℕ → List T
swap_without s i = option_map_or (λ x. swap_remove s i x) (slice_get s i) s

-- Example: `moved [a, b, c] 0 2 ≡ [b, c, a]`; `moved [a, b, c] 2 0 ≡ [c, a, b]`.
-- The list `s` after the item at the index `from` has moved to the index `to`; the items between them shift by one index.
abbrev pub moved : {T : Type 0} → List T → ℕ → ℕ → List T
moved s from to = option_map_or (λ x. insert (remove s from) to x) (slice_get s from) s

-- Example: `IsReorderedItems [a, b] [b, a]`; `¬ (IsReorderedItems [a, b] [a])`.
-- The list `r` has the elements of `s`, as far as tests, lengths and an equivalence can tell.
pub record IsReorderedItems {T : Type 0} (s r : List T) : Type 0 where
  pub rearranged : IsPermutation s r
  -- What follows: whether a query matches, how many elements there are, and that both lists are equal as sets.
  pub matches : (test : T → Bool) → list_any test r ≡ list_any test s
  pub len : length r ≡ length s
  pub equal : (eq : T → T → Bool) → IsEquivalence eq → IsTrue (has_same_items eq r s)

module _ {T : Type 0} (test : T → Bool) where
  -- Example: `stored_first (nat_lt 1) [1, 2, 4] ≡ Some 2`.
  -- The first element that passes the test.
  abbrev pub stored_first : List T → Option T
  stored_first s = option_and_then (slice_get s) (position test s)

  -- Example: `without_first (nat_lt 1) [1, 2, 3, 4] ≡ [1, 3, 4]`.
  -- The list `s` without the first element that passes the test.
  abbrev pub without_first : List T → List T
  without_first s = option_map_or (λ i. remove s i) (position test s) s

  -- Example: `swap_without_first (nat_lt 1) [1, 2, 3, 4] ≡ [1, 4, 3]`.
  -- The list `s` without the first element that passes the test; the last element moves to its index.
  abbrev pub swap_without_first : List T → List T
  swap_without_first s = option_map_or (λ i. swap_without s i) (position test s) s

module _ {T : Type 0} (eq : T → T → Bool) where
  -- Example: `item_index nat_eq [1, 2] 2 ≡ Some 1`.
  -- The index of the first element that is equal to `x`.
  abbrev pub item_index : List T → T → Option ℕ
  item_index s x = position (eq x) s

  -- Example: `stored_item eq [1x] 1y ≡ Some 1x`.
  -- The stored element that is equal to `x`.
  abbrev pub stored_item : List T → T → Option T
  stored_item s x = stored_first (eq x) s

  -- Example: `add eq [1x] 1y ≡ [1x]`; `add eq [1x] 2y ≡ [1x, 2y]`.
  -- The list `s` with `x` added: nothing changes if an equal element is present, and a new element is appended.
  abbrev pub add : List T → T → List T
  add s x = if is_member eq s x then s else s ++ x ∷ []

  -- Example: `adds eq [] [1x, 1y, 2x] ≡ [1x, 2x]`.
  -- The list `s` with each of `xs` added, in order.
  abbrev pub adds : List T → List T → List T
  adds s xs = fold add s xs

  -- Example: `put_item eq [1x] 1y ≡ [1y]`.
  -- The list `s` with `x` added as the new element: it replaces an equal one at its index, or is appended.
  abbrev pub put_item : List T → T → List T
  put_item s x = option_map_or (λ i. slice_set s i x) (item_index s x) (s ++ x ∷ [])

  -- Example: `without_item nat_eq [1, 2, 3] 1 ≡ [2, 3]`.
  -- The list `s` without the element that is equal to `x`.
  abbrev pub without_item : List T → T → List T
  without_item s x = without_first (eq x) s

  -- Example: `swap_without_item nat_eq [1, 2, 3] 1 ≡ [3, 2]`.
  -- The list `s` without the element that is equal to `x`; the last element moves to its index.
  abbrev pub swap_without_item : List T → T → List T
  swap_without_item s x = swap_without_first (eq x) s

  -- Example: `both nat_eq [3, 2, 1] [1, 2] ≡ [2, 1]`.
  -- The elements of `a` that are in `b`, in the order of `a`.
  abbrev pub both : List T → List T → List T
  both a b = filter (λ x. is_member eq b x) a

  -- Example: `only nat_eq [3, 2, 1] [1, 2] ≡ [3]`.
  -- The elements of `a` that are not in `b`, in the order of `a`.
  abbrev pub only : List T → List T → List T
  only a b = filter (λ x. not (is_member eq b x)) a
