-- What a reversal, a swap and a move of elements leave of a set. The first field is the whole list, and the others follow
-- from it. `eq` is the `==` of the elements.
use Rattle.std.specs.{Prelude.{◌≡◌, ◌-◌, ◌<◌, ℕ, Bool, List, false, length, nat_eq, reverse, swap}, List.IsDistinct}
use Rattle.vecmap_base.specs.Items.{IsReorderedItems, moved}
use Rattle.vecmap_set.specs.SetIndices.{MovesItemIndex}

module _ {T : Type 0} (eq : T → T → Bool) where
  -- Example: from `[3, 1, 2]` to `[1, 2, 3]`.
  -- The list `r` has the elements of the list `s`, in some order.
  pub record ReordersItems (s r : List T) : Type 0 where
    pub reordered : IsReorderedItems s r
    pub distinct : IsDistinct eq r

  -- Example: `ReversesItems nat_eq [1, 2, 3] [3, 2, 1]`; `¬ (ReversesItems nat_eq [1, 2, 3] [1, 2, 3])`.
  -- The list `r` is the list `s` in reverse order.
  pub record ReversesItems (s r : List T) : Type 0 where
    pub elements : r ≡ reverse s
    pub distinct : IsDistinct eq r
    -- What queries find, and where.
    pub reordered : IsReorderedItems s r
    pub moves : (i : ℕ) → i < length s → MovesItemIndex eq i (length s - 1 - i) s r

  -- Example: `SwapsItems nat_eq 0 2 [1, 2, 3] [3, 2, 1]`; `¬ (SwapsItems nat_eq 0 2 [1, 2, 3] [2, 3, 1])`.
  -- The list `r` is the list `s` with the elements at the indices `a` and `b` swapped.
  pub record SwapsItems (a b : ℕ) (s r : List T) : Type 0 where
    pub elements : r ≡ swap s a b
    pub distinct : IsDistinct eq r
    -- What queries find, and where.
    pub reordered : IsReorderedItems s r
    pub moves : MovesItemIndex eq a b s r × MovesItemIndex eq b a s r
    pub elsewhere : (i : ℕ) → nat_eq i a ≡ false → nat_eq i b ≡ false → MovesItemIndex eq i i s r

  -- Example: `MovesItem nat_eq 0 2 [1, 2, 3] [2, 3, 1]`; `¬ (MovesItem nat_eq 0 2 [1, 2, 3] [3, 2, 1])`.
  -- The list `r` is the list `s` after the element at the index `from` has moved to the index `to`.
  pub record MovesItem (from to : ℕ) (s r : List T) : Type 0 where
    pub elements : r ≡ moved s from to
    pub distinct : IsDistinct eq r
    -- What queries find, and where.
    pub reordered : IsReorderedItems s r
    pub moves : MovesItemIndex eq from to s r
    pub elsewhere : (i : ℕ) → i < from → i < to → MovesItemIndex eq i i s r
