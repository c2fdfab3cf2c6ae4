-- What a reversal, a swap and a move of pairs leave of a list of pairs. The first field is the whole list, and the others
-- follow from it. `eq` is the `==` of keys, and a test is what a query does with a key.
use Rattle.std.specs.{Prelude.{◌≡◌, ◌-◌, ◌<◌, ℕ, Bool, List, Some, false, length, nat_eq, reverse, slice_get, swap}, Cmp.IsEquivalence}
use Rattle.std.specs.Map.{IsKeyTest}
use Rattle.vecmap_base.specs.{Indices.MovesIndex, Items.moved, Lookups.IsReordered, Pairs.{HasDistinctKeys, index_by}}

module _ {K V : Type 0} where
  -- Example: `ReversesPairs [(1, a), (2, b)] [(2, b), (1, a)]`; `¬ (ReversesPairs [(1, a), (2, b)] [(1, a), (2, b)])`.
  -- The list `m` is the list `l` in reverse order.
  pub record ReversesPairs (l m : List (K × V)) : Type 0 where
    pub entries : m ≡ reverse l
    -- What lookups find, and at which indices keys are.
    pub reordered : IsReordered l m
    pub indices : (eq : K → K → Bool) (test : K → Bool) (i : ℕ) → index_by test l ≡ Some i → IsEquivalence eq → IsKeyTest eq test → HasDistinctKeys eq l → index_by test m ≡ Some (length l - 1 - i)

  -- Example: `SwapsPairs 0 1 [(1, a), (2, b)] [(2, b), (1, a)]`; `¬ (SwapsPairs 0 1 [(1, a), (2, b)] [(1, a), (2, b)])`.
  -- The list `m` is the list `l` with the pairs at the indices `a` and `b` swapped.
  pub record SwapsPairs (a b : ℕ) (l m : List (K × V)) : Type 0 where
    pub entries : m ≡ swap l a b
    -- What lookups find, and at which indices pairs and keys are.
    pub reordered : IsReordered l m
    pub moves : MovesIndex a b l m × MovesIndex b a l m
    pub elsewhere : (i : ℕ) → nat_eq i a ≡ false → nat_eq i b ≡ false → MovesIndex i i l m

  -- Example: `MovesPair 0 2 [(1, a), (2, b), (3, c)] [(2, b), (3, c), (1, a)]`.
  -- Example: `¬ (MovesPair 0 2 [(1, a), (2, b), (3, c)] [(3, c), (2, b), (1, a)])`.
  -- The list `m` is the list `l` after the pair at the index `from` has moved to the index `to`.
  pub record MovesPair (from to : ℕ) (l m : List (K × V)) : Type 0 where
    pub entries : m ≡ moved l from to
    -- What lookups find, and at which indices pairs and keys are.
    pub reordered : IsReordered l m
    pub moves : MovesIndex from to l m
    pub elsewhere : (i : ℕ) → i < from → i < to → slice_get m i ≡ slice_get l i
    pub indices : (test : K → Bool) (i : ℕ) → index_by test l ≡ Some i → i < from → i < to → index_by test m ≡ Some i
