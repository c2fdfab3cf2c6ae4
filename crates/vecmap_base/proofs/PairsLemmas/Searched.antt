-- What a binary search of a list of pairs says of its key: whether it is present, if the keys ascend, and where it is.
use Rattle.std.specs.{Cmp.IsEquivalence, Cmp.IsTotalOrder, Map.keys_of, Option.option_and_then, Ordering.{is_eq, is_lt}, declared.cmp.Ordering.Ordering}
use Rattle.std.specs.Prelude.{◌≡◌, ◌+◌, ◌<◌, ℕ, Bool, Err, IfErr, IfOk, List, [], ◌∷◌, Ok, Result, Some, insert, is_ok, is_some, length, true}
use Rattle.std.specs.List.Sorted.{IsBinarySearchResult, IsSearchInRange, IsSorted, IsSortedByKey}
use Rattle.std.proofs.{Common.{◌∙◌, ap, arith, get_or, subst, sym}, lemmas.{List.{Edits.length-insert, get_or-map, length-map}, Option.slice_get-get_or}}
use Rattle.vecmap_base.specs.Pairs.{HasDistinctKeys, index_of, lookup, value_at}
use Rattle.vecmap_base.proofs.{IndexLemmas.is_some_position, ItemsLemmas.Sorted.{comparisons_rise, search_finds_equal, sorted_insert}}
use Rattle.vecmap_base.proofs.PairsLemmas.{AtIndices.index_by_own, ByIndex.index_by_is, ByIndex.is_some_lookup_by, ByIndex.lookup_by_index, Keys.keys_of_insert}

module _ {K V : Type 0} (cmp : K → K → Ordering) where
  -- The pairs ascend by their keys exactly if the list of the keys ascends.
  pub keys_sorted : (l : List (K × V)) → IsSortedByKey (λ p. p.0) cmp l → IsSorted cmp (keys_of l)
  keys_sorted [] sorted k d from within = absurd (omega (arith, within))
  keys_sorted (p ∷ ps) sorted k d from within =
      let m : k + 1 < length (p ∷ ps) = omega (arith, within, length-map (p ∷ ps) (λ q. q.0)) in
      (λ i. is_lt (cmp (get_or-map (λ q. q.0) (p ∷ ps) (k + 1) p d m i) (get_or-map (λ q. q.0) (p ∷ ps) k p d (omega (arith, m)) i))) ∙ sorted k p from m

  pub sorted_by_keys : (l : List (K × V)) → IsSorted cmp (keys_of l) → IsSortedByKey (λ p. p.0) cmp l
  sorted_by_keys l sorted k d from within =
      sym (λ i. is_lt (cmp (get_or-map (λ q. q.0) l (k + 1) d d.0 within i) (get_or-map (λ q. q.0) l k d d.0 (omega (arith, within)) i)))
      ∙ sorted k d.0 from (omega (arith, within, length-map l (λ q. q.0)))

  -- If the keys ascend, they still do with a new one where a binary search for it ends.
  pub sorted_with_key : IsTotalOrder cmp → (l : List (K × V)) (k : K) (r : Result ℕ ℕ) → IsSearchInRange r (length l) → IsBinarySearchResult (λ p. cmp p.0 k) l r → IfErr r (λ i. IsSorted cmp (keys_of l) → IsSorted cmp (insert (keys_of l) i k))
  sorted_with_key o l k (Ok i) within at = tt
  sorted_with_key o [] k (Err i) within ends = λ sorted j d from below. absurd (omega (arith, below, length-insert [] i k within))
  sorted_with_key o (p ∷ ps) k (Err i) within ends = λ sorted.
      let by_key = sorted_by_keys (p ∷ ps) sorted in
      let split = ends (comparisons_rise (λ q. q.0) cmp o k (p ∷ ps) by_key) in
      subst (IsSorted cmp) (keys_of_insert (p ∷ ps) i k p.1) (keys_sorted (insert (p ∷ ps) i (k, p.1)) (sorted_insert (λ q. q.0) cmp o (p ∷ ps) i (k, p.1) within by_key split))

module _ {K V : Type 0} (eq : K → K → Bool) (cmp : K → K → Ordering) (o : IsTotalOrder cmp) (matches : (x y : K) → eq x y ≡ is_eq (cmp x y)) where
  -- A binary search succeeds exactly if the key is present.
  pub search_finds_key : (l : List (K × V)) (k : K) (r : Result ℕ ℕ) → IsSearchInRange r (length l) → IsBinarySearchResult (λ p. cmp p.0 k) l r → IsSortedByKey (λ p. p.0) cmp l → is_ok r ≡ is_some (lookup eq l k)
  search_finds_key l k r within at sorted =
      search_finds_equal (λ p. p.0) cmp o eq matches k l r within at sorted
      ∙ sym (is_some_lookup_by (eq k) l ∙ ap is_some (index_by_is (eq k) l) ∙ is_some_position (λ p. eq k p.0) l)

  -- If all keys are distinct, it returns the index of the key.
  pub search_index : IsEquivalence eq → (l : List (K × V)) (k : K) (r : Result ℕ ℕ) → IsSearchInRange r (length l) → IsBinarySearchResult (λ p. cmp p.0 k) l r → HasDistinctKeys eq l → IfOk r (λ i. (index_of eq l k ≡ Some i) × (value_at l i ≡ lookup eq l k))
  search_index e [] k (Ok i) within at d = absurd (omega (arith, within))
  search_index e (p ∷ ps) k (Ok i) within at d =
      let q = get_or (p ∷ ps) i p in
      let same : eq k q.0 ≡ true = e.symm k q.0 ∙ matches q.0 k ∙ ap is_eq (at p) in
      let here : index_of eq (p ∷ ps) k ≡ Some i = index_by_own (eq k) eq e (e.congr k) (p ∷ ps) d i q (slice_get-get_or (p ∷ ps) i p within) same in
      (here, sym (lookup_by_index (eq k) (p ∷ ps) ∙ ap (option_and_then (value_at (p ∷ ps))) here))
  search_index e l k (Err i) within at d = tt
