-- The records of reversals, swaps and moves, from the list that is left, and the permutation that a sort makes.
use Rattle.std.specs.{Cmp.IsEquivalence, List.{IsDistinct, Sorted.IsPermutation}}
use Rattle.std.proofs.Common.{◌≡◌, ◌-◌, ◌<◌, ℕ, Bool, List, arith, length, reverse, subst, swap, sym}
use Rattle.std.proofs.lemmas.List.Sorted.{IsPermutation-reverse, IsPermutation-swap, length_permutation, list_any-IsPermutation}
use Rattle.vecmap_base.{specs.Items.{IsReorderedItems, moved}, proofs.EqualityLemmas.Sets.same_items}
use Rattle.vecmap_base.proofs.MoveLemmas.{at_reversed, moved_item, moved_other, swapped_item, swapped_item_back, swapped_other}
use Rattle.vecmap_set.{specs.SetReorders.{MovesItem, ReversesItems, SwapsItems}, proofs.SetIndexLemmas.index_moved}
pub use Rattle.vecmap_base.proofs.DistinctLemmas.{distinct_rearranged, distinct_reverse, distinct_swap}

pub items_reordered : {T : Type 0} (s r : List T) → IsPermutation s r → IsReorderedItems s r
items_reordered s r p = grind (arith, list_any-IsPermutation, length_permutation, same_items)

module _ {T : Type 0} (eq : T → T → Bool) (o : IsEquivalence eq) (s r : List T) (d : IsDistinct eq r) where
  pub reverses_items : r ≡ reverse s → ReversesItems eq s r
  reverses_items e = record {
    elements = e;
    distinct = d;
    reordered = items_reordered s r (subst (IsPermutation s) (sym e) (IsPermutation-reverse s));
    moves = λ i h. index_moved eq o s r i (length s - 1 - i) (at_reversed s r i e h) d;
  }

  pub swaps_items : (i j : ℕ) → i < length s → j < length s → r ≡ swap s i j → SwapsItems eq i j s r
  swaps_items i j h k e = record {
    elements = e;
    distinct = d;
    reordered = items_reordered s r (IsPermutation-swap s r i j h k e);
    moves = (index_moved eq o s r i j (swapped_item s r i j e h k) d, index_moved eq o s r j i (swapped_item_back s r i j e h k) d);
    elsewhere = λ n f g. index_moved eq o s r n n (swapped_other s r i j n e h k f g) d;
  }

  pub moves_item : (i j : ℕ) → IsPermutation s r → r ≡ moved s i j → i < length s → j < length s → MovesItem eq i j s r
  moves_item i j p e h k = record {
    elements = e;
    distinct = d;
    reordered = items_reordered s r p;
    moves = index_moved eq o s r i j (moved_item s r i j e h k) d;
    elsewhere = λ n f g. index_moved eq o s r n n (moved_other s r i j n e h f g) d;
  }
