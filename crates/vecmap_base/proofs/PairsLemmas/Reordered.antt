-- A list of pairs in another order, in the words of contracts.
use Rattle.std.proofs.{Common.{arith, rules, subst, sym}, lemmas.Option.slice_get_within}
use Rattle.std.proofs.lemmas.List.Sorted.{IsPermutation-reverse, IsPermutation-swap, length_permutation}
use Rattle.std.specs.{Prelude.{◌≡◌, ◌-◌, ◌<◌, ℕ, Bool, List, Some, length, reverse, suc, swap}, Cmp.IsEquivalence}
use Rattle.std.specs.{List.Sorted.IsPermutation, Map.IsKeyTest}
use Rattle.vecmap_base.specs.{Items.moved, Lookups.IsReordered, Pairs.{HasDistinctKeys, index_by}, Reorders.{MovesPair, ReversesPairs, SwapsPairs}}
use Rattle.vecmap_base.proofs.EqualityLemmas.Maps.{equal_rearranged}
use Rattle.vecmap_base.proofs.MoveLemmas.{at_reversed, moved_item, moved_other, swapped_item, swapped_item_back, swapped_other}
use Rattle.vecmap_base.proofs.PairsLemmas.{AtIndices.{match_at, moves_index, stays_in_front}, ManyPairs.matches_rearranged, Updates.lookups_rearranged}

module _ {K V : Type 0} (l m : List (K × V)) where
  pub reordered : IsPermutation l m → IsReordered l m
  reordered p = search (rules, matches_rearranged, lookups_rearranged, length_permutation, equal_rearranged)

  pub reverses_pairs : m ≡ reverse l → ReversesPairs l m
  reverses_pairs e = record { entries = e; reordered = reordered permuted; indices = indices }
    where
      permuted : IsPermutation l m
      permuted = subst (IsPermutation l) (sym e) (IsPermutation-reverse l)

      -- In the reversed list, each match is as far from the end as it was from the start.
      indices : (eq : K → K → Bool) (test : K → Bool) (i : ℕ) → index_by test l ≡ Some i → IsEquivalence eq → IsKeyTest eq test → HasDistinctKeys eq l → index_by test m ≡ Some (length l - 1 - i)
      indices eq test i at o respects d =
          let found = match_at test l i at in
          let within = slice_get_within l i (found.0, found.1) found.2 in
          (moves_index l m i (length l - 1 - i) permuted (at_reversed l m i e within)).query eq test o respects d at

  pub swaps_pairs : (i j : ℕ) → i < length l → j < length l → m ≡ swap l i j → SwapsPairs i j l m
  swaps_pairs i j h k e =
      let permuted = IsPermutation-swap l m i j h k e in
      record {
        entries = e;
        reordered = reordered permuted;
        moves = (moves_index l m i j permuted (swapped_item l m i j e h k), moves_index l m j i permuted (swapped_item_back l m i j e h k));
        elsewhere = λ n f g. moves_index l m n n permuted (swapped_other l m i j n e h k f g);
      }

  pub moves_pair : (i j : ℕ) → IsPermutation l m → m ≡ moved l i j → i < length l → j < length l → MovesPair i j l m
  moves_pair i j permuted e h k = record {
    entries = e;
    reordered = reordered permuted;
    moves = moves_index l m i j permuted (moved_item l m i j e h k);
    elsewhere = λ n f g. moved_other l m i j n e h f g;
    indices = λ test n at f g. stays_in_front test l m (suc n) n (λ d below. moved_other l m i j d e h (omega (arith, below, f)) (omega (arith, below, g))) at (omega arith);
  }
