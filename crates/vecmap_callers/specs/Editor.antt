-- Changes of a list of fields, each a pair of a number and a value.
use Rattle.std.specs.Prelude.{◌≡◌, ◌<◌, ◌≤◌, ⊤, ℕ, List, None, length, nat_eq}
use Rattle.vecmap.specs.{Items.moved, Pairs.{lookup, put, put_at, without_key}}
use Rattle.vecmap_callers.specs.declared.editor.Change.{Change}
use Rattle.vecmap_callers.specs.declared.editor.Change.TheVariants.{Move, Place, Remove, Set}

-- Example: `changed (Remove 1) [(1, 5), (2, 6)] ≡ [(2, 6)]`.
-- The fields after a change.
abbrev pub changed : Change → List (ℕ × ℕ) → List (ℕ × ℕ)
changed (Set key value) l = put nat_eq l key value
changed (Remove key) l = without_key nat_eq l key
changed (Place index key value) l = put_at nat_eq l index key value
changed (Move from to) l = moved l from to

-- Example: `Place 0 2 6` is possible of `[(1, 5)]`, and `Place 0 1 6` is not.
-- A placed field is new, and its index at most the length. Fields are moved between indices of fields.
abbrev pub IsPossible : Change → List (ℕ × ℕ) → Type 0
IsPossible (Set key value) l = ⊤
IsPossible (Remove key) l = ⊤
IsPossible (Place index key value) l = (index ≤ length l) × (lookup nat_eq l key ≡ None)
IsPossible (Move from to) l = (from < length l) × (to < length l)
