-- The records of removals of pairs, and of a split, from the list that is left.
use Rattle.std.specs.{Cmp.IsEquivalence, List.Sorted.IsPermutation, Map.IsKeyTest, Option.option_map_or, Option.option_to_list}
use Rattle.std.proofs.Common.{◌≡◌, ◌∙◌, ◌+◌, ◌-◌, ◌++◌, ℕ, Bool, List, ◌∷◌, None, Option, Some, ap, arith, cond, drop, if◌then◌else◌, is_some, length, remove, slice_get, sym, subst, take}
use Rattle.std.proofs.lemmas.{List.take-append-drop, Map.Keys.IsDistinct-tail}
use Rattle.vecmap_base.specs.{Items.swap_without, Pairs.{HasDistinctKeys, lookup_by, lookup_pair_by, swap_without_by, without_by}}
use Rattle.vecmap_base.specs.Removals.{FindsPair, ForgetsIndex, ForgetsKey, RemovesAt, RemovesBy, RemovesLast, SplitsAt}
use Rattle.vecmap_base.proofs.IndexLemmas.{list_any_position}
use Rattle.vecmap_base.proofs.PairsLemmas.ByIndex.{index_by_is, index_by_none, is_some_lookup_by, is_some_lookup_pair_by, value_of_pair_by, without_by_index}
use Rattle.vecmap_base.proofs.PairsLemmas.{LookupsAfterChanges.{distinct_keys_rearranged, distinct_keys_remove}, ManyPairs.{keeps_front_of, lookup_by_append}}
use Rattle.vecmap_base.proofs.PairsLemmas.Updates.{key_passes, lookup_by_taken, updates_of_first}
use Rattle.vecmap_base.proofs.TakenLemmas.{TakesFirst, first_by_shift, first_by_swap, last_read, last_taken, len_of_first, len_popped, one_less, taken_by_shift, taken_by_swap}

module _ {K V : Type 0} (test : K → Bool) (l : List (K × V)) where
  pub finds_pair : (r : Option (K × V)) → r ≡ lookup_pair_by test l → FindsPair test l r
  finds_pair r e = grind (arith, is_some_lookup_pair_by, value_of_pair_by)

  module _ (eq : K → K → Bool) (o : IsEquivalence eq) (respects : IsKeyTest eq test) (m : List (K × V)) where
    len_by : TakesFirst l m (λ p. test p.0) → length m + (if is_some (lookup_by test l) then 1 else 0) ≡ length l
    len_by first =
        ap (λ b. length m + (if b then 1 else 0)) (is_some_lookup_by test l ∙ ap is_some (index_by_is test l) ∙ sym (list_any_position (λ p. test p.0) l))
        ∙ len_of_first l m (λ p. test p.0) first

    removes_first : (without : (K → Bool) → List (K × V) → List (K × V)) → m ≡ without test l → TakesFirst l m (λ p. test p.0) → RemovesBy eq without test l m
    removes_first without e first =
        let updates = updates_of_first eq o test respects l m first in
        record { entries = e; updates = updates; gone = λ d. index_by_none test m (updates d).own; len = len_by first }

    pub removes_by : m ≡ without_by test l → RemovesBy eq without_by test l m
    removes_by e = removes_first without_by e (first_by_shift l m (λ p. test p.0) (e ∙ without_by_index test l ∙ ap (λ found. option_map_or (λ i. remove l i) found l) (index_by_is test l)))

    pub swap_removes_by : m ≡ swap_without_by test l → RemovesBy eq swap_without_by test l m
    swap_removes_by e = removes_first swap_without_by e (first_by_swap l m (λ p. test p.0) (e ∙ ap (λ found. option_map_or (λ i. swap_without l i) found l) (index_by_is test l)))

module _ {K V : Type 0} (l m : List (K × V)) where
  forgets_key : (p : K × V) → IsPermutation l (p ∷ m) → ForgetsKey p.0 l m
  forgets_key p moved test eq d respects o = lookup_by_taken eq o test respects l m p d moved

  forgets_index : (i : ℕ) (p : K × V) → slice_get l i ≡ Some p → IsPermutation l (p ∷ m) → ForgetsIndex i l m
  forgets_index i p at moved test eq d respects o found =
      forgets_key p moved test eq d respects o ∙ ap (λ b. cond b None (lookup_by test l)) (key_passes eq o test respects l i p found at)

  removes_one : (without : List (K × V) → ℕ → List (K × V)) (i : ℕ) (p : K × V) → m ≡ without l i → slice_get l i ≡ Some p → IsPermutation l (p ∷ m) → RemovesAt without i l p m
  removes_one without i p e at moved = record { pair = at; entries = e; lookups = forgets_key p moved; gone = forgets_index i p at moved; len = one_less l m p moved }

  pub removes_at : (i : ℕ) (p : K × V) → m ≡ remove l i → slice_get l i ≡ Some p → RemovesAt remove i l p m
  removes_at i p e at = removes_one remove i p e at (taken_by_shift l m i p e at).1

  pub swap_removes_at : (i : ℕ) (p : K × V) → m ≡ swap_without l i → slice_get l i ≡ Some p → RemovesAt swap_without i l p m
  swap_removes_at i p e at = removes_one swap_without i p e at (taken_by_swap l m i p e at).1

  -- The keys stay distinct.
  pub distinct_removed : (i : ℕ) → m ≡ remove l i → (eq : K → K → Bool) → HasDistinctKeys eq l → HasDistinctKeys eq m
  distinct_removed i e eq d = subst (HasDistinctKeys eq) (sym e) (distinct_keys_remove eq l i d)

  pub distinct_swap_removed : (i : ℕ) (p : K × V) → m ≡ swap_without l i → slice_get l i ≡ Some p → (eq : K → K → Bool) → IsEquivalence eq → HasDistinctKeys eq l → HasDistinctKeys eq m
  distinct_swap_removed i p e at eq o d = IsDistinct-tail eq p.0 _ (distinct_keys_rearranged eq o l (p ∷ m) (taken_by_swap l m i p e at).1 d)

  pub removes_last : (r : Option (K × V)) → m ≡ take (length l - 1) l → l ≡ m ++ option_to_list r → RemovesLast l r m
  removes_last r front parts = grind (arith, last_read, keeps_front_of, len_popped, forgets_key, last_taken)

  pub splits_at : (i : ℕ) (r : List (K × V)) → m ≡ take i l → r ≡ drop i l → SplitsAt i l m r
  splits_at i r e f =
      let whole : m ++ r ≡ l = (λ t. e t ++ f t) ∙ take-append-drop i l in
      record {
        front = keeps_front_of i l m e;
        part = f;
        whole = whole;
        part_lookups = λ test. sym (ap (lookup_by test) whole) ∙ lookup_by_append test m r;
      }
