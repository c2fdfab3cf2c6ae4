-- At which indices a set has its elements, also after a change. `eq` is the `==` of the elements.
use Rattle.std.specs.{Prelude.{◌≡◌, ◌+◌, ◌<◌, ◌≤◌, ℕ, Bool, IsTrue, List, Some, length, position, slice_get}, Map.IsKeyTest, Set.is_member}
use Rattle.vecmap_base.specs.Items.{item_index}

module _ {T : Type 0} where
  -- Example: `FindsAt (nat_eq 2) [1, 2] 1`; `¬ (FindsAt (nat_eq 2) [1, 2] 0)`.
  -- The first match of a query in the list `s` is at the index `i`.
  pub record FindsAt (test : T → Bool) (s : List T) (i : ℕ) : Type 0 where
    pub index : position test s ≡ Some i
    pub within : i < length s
    pub at : (x : T) × (slice_get s i ≡ Some x) × IsTrue (test x)

  -- Example: from `[1, 2]` to `[1, 2, 3]`.
  -- The first match of each query in the list `s` has the same index in `r`.
  abbrev pub KeepsMatchIndices : List T → List T → Type 0
  KeepsMatchIndices s r = (test : T → Bool) (i : ℕ) → position test s ≡ Some i → position test r ≡ Some i

  -- Example: from `[1, 2, 3]` to `[1, 2]`, for the bound 2.
  -- The same of each match whose index is below `n`.
  abbrev pub KeepsMatchIndicesBelow : ℕ → List T → List T → Type 0
  KeepsMatchIndicesBelow n s r = (test : T → Bool) (i : ℕ) → position test s ≡ Some i → i < n → position test r ≡ Some i

  -- Example: `ShiftsItems 1 [a, b, c] [a, c]`; `¬ (ShiftsItems 0 [a, b] [])` by `after 0 (search rules)`.
  -- The elements of the list `s` before the index `i` are at their indices in `r`, and those after it one index before.
  pub record ShiftsItems (i : ℕ) (s r : List T) : Type 0 where
    pub before : (j : ℕ) → j < i → slice_get r j ≡ slice_get s j
    pub after : (j : ℕ) → i ≤ j → slice_get r j ≡ slice_get s (j + 1)

module _ {T : Type 0} (eq : T → T → Bool) where
  -- Example: `IsFoundAt nat_eq 1 [1, 2] 2`; `¬ (IsFoundAt nat_eq 1 [1, 2] 3)`.
  -- The element `x` at the index `i` of the list `s` is present, and is found there.
  pub record IsFoundAt (i : ℕ) (s : List T) (x : T) : Type 0 where
    pub present : IsTrue (is_member eq s x)
    pub index : item_index eq s x ≡ Some i

  -- Example: `KeepsItemIndices nat_eq [1] [1, 2]`; `¬ (KeepsItemIndices nat_eq [1] [])` by `items 1 0 refl`.
  -- Each element, and each query that matches an element and its equals alone, has in the list `r` its index in `s`.
  pub record KeepsItemIndices (s r : List T) : Type 0 where
    pub items : (q : T) (i : ℕ) → item_index eq s q ≡ Some i → item_index eq r q ≡ Some i
    pub queries : (test : T → Bool) → IsKeyTest eq test → (i : ℕ) → position test s ≡ Some i → position test r ≡ Some i

  -- Example: `MovesItemIndex nat_eq 0 2 [1, 2, 3] [2, 3, 1]`; `¬ (MovesItemIndex nat_eq 0 1 [1, 2] [1, 2])`.
  -- The element at the index `i` of the list `s` is at the index `j` of `r`, and is found there.
  pub record MovesItemIndex (i j : ℕ) (s r : List T) : Type 0 where
    pub at : slice_get r j ≡ slice_get s i
    pub items : (q : T) → item_index eq s q ≡ Some i → item_index eq r q ≡ Some j
    pub queries : (test : T → Bool) → IsKeyTest eq test → position test s ≡ Some i → position test r ≡ Some j
