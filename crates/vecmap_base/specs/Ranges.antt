-- The indices of a list that a range names. The ends of the range are counted without limit.
use Rattle.std.specs.{Prelude.{ℕ, ◌≤◌, List, length, slice_range}, Bound.{end_index, start_index}, List.remove_range}
use Rattle.std.specs.declared.ops.Bound.{Bound}

-- Example: `IsRangeWithin 1 4 5`; `¬ (IsRangeWithin 4 1 5)`.
-- The indices from `first` up to, but not including, `last` are indices of a list with `len` items.
abbrev pub IsRangeWithin : ℕ → ℕ → ℕ → Type 0
IsRangeWithin first last len = (first ≤ last) × (last ≤ len)

-- Example: `AreEndsWithin (Included 1) (Excluded 4) 5`; `¬ (AreEndsWithin (Included 4) (Excluded 1) 5)`.
-- The indices of a range with these ends are indices of a list with `len` items.
abbrev pub AreEndsWithin : Bound ℕ → Bound ℕ → ℕ → Type 0
AreEndsWithin start end len = IsRangeWithin (start_index start) (end_index end len) len

module _ {T : Type 0} where
  -- Example: `items_between [a, b, c, d] (Included 1) (Excluded 3) ≡ [b, c]`.
  -- The items of `l` in the range with these ends.
  abbrev pub items_between : List T → Bound ℕ → Bound ℕ → List T
  items_between l start end = slice_range l (start_index start) (end_index end (length l))

  -- Example: `without_between [a, b, c, d] (Included 1) (Excluded 3) ≡ [a, d]`.
  -- The list `l` without the items in the range with these ends.
  abbrev pub without_between : List T → Bound ℕ → Bound ℕ → List T
  without_between l start end = remove_range l (start_index start) (end_index end (length l))
