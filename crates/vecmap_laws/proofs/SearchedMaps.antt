-- What a binary search of a map says of the index of its key, and the order after an insertion where it ends.
use Rattle.std.proofs.Common.{nat_cmp, ◌≡◌, ◌≤◌, ℕ, Bool, true, List, [], ◌∷◌, Err, None, Ok, Result, ap, arith, is_some, insert, length, refl, slice_index_or, sym, subst, ◌∙◌}
use Rattle.std.proofs.lemmas.{List.Folds.list_any_at}
use Rattle.std.specs.{Cmp.{IsTotalOrder, nat_cmp_total, unsigned_ties}, Prelude.nat_eq, declared.cmp.Ordering.Ordering}
use Rattle.std.specs.List.Sorted.{IsBinarySearchResult, IsNonDecreasingBy, IsPartitionPoint, IsSearchInRange, IsSortedByKey}
use Rattle.std.specs.{Ordering.is_eq, Ordering.ordering_index, Ordering.ordering_reverse, Result.is_ok}
use Rattle.std.specs.declared.cmp.Ordering.TheVariants.{Equal, Greater, Less}
use Rattle.vecmap_base.proofs.{IndexLemmas.{is_some_position, position_none}, PairsLemmas.ByIndex.index_by_is}
use Rattle.vecmap_base.proofs.ItemsLemmas.Sorted.{comparisons_rise, none_at_partition, sorted_insert}
use Rattle.vecmap_laws.proofs.PutLemmas.{put_at_absent}
use Rattle.vecmap_base.specs.Pairs.{index_of, put_at}

module _ {K V : Type 0} (eq : K → K → Bool) (cmp : K → K → Ordering) (o : IsTotalOrder cmp) (matches : (x y : K) → eq x y ≡ is_eq (cmp x y)) where
  pub absent_index : (l : List (K × V)) → IsSortedByKey (λ p. p.0) cmp l → (k : K) (i : ℕ) → (IsNonDecreasingBy (λ p. ordering_index (cmp p.0 k)) l → IsPartitionPoint (λ p. cmp p.0 k ≡ Less) (λ p. cmp p.0 k ≡ Greater) l i) → index_of eq l k ≡ None
  absent_index l sorted k i ends = index_by_is (eq k) l ∙ position_none (λ p. eq k p.0) l (none_at_partition (λ p. p.0) cmp o eq matches k l i (ends (comparisons_rise (λ p. p.0) cmp o k l sorted)))

  pub inserted_new : (l : List (K × V)) → IsSortedByKey (λ p. p.0) cmp l → (k : K) (v : V) (i : ℕ) → (IsNonDecreasingBy (λ p. ordering_index (cmp p.0 k)) l → IsPartitionPoint (λ p. cmp p.0 k ≡ Less) (λ p. cmp p.0 k ≡ Greater) l i) → put_at eq l i k v ≡ insert l i (k, v)
  inserted_new l sorted k v i ends = put_at_absent eq l i k v (absent_index l sorted k i ends)

  pub sorted_after : (l : List (K × V)) → IsSortedByKey (λ p. p.0) cmp l → (k : K) (v : V) (i : ℕ) → i ≤ length l → (IsNonDecreasingBy (λ p. ordering_index (cmp p.0 k)) l → IsPartitionPoint (λ p. cmp p.0 k ≡ Less) (λ p. cmp p.0 k ≡ Greater) l i) → IsSortedByKey (λ p. p.0) cmp (put_at eq l i k v)
  sorted_after l sorted k v i fits ends = subst (IsSortedByKey (λ p. p.0) cmp) (sym (inserted_new l sorted k v i ends)) (sorted_insert (λ p. p.0) cmp o l i (k, v) fits sorted (ends (comparisons_rise (λ p. p.0) cmp o k l sorted)))

  -- In a map whose keys ascend, a binary search succeeds exactly if the key has an index.
  pub search_finds : (l : List (K × V)) → IsSortedByKey (λ p. p.0) cmp l → (k : K) (r : Result ℕ ℕ) → IsSearchInRange r (length l) → IsBinarySearchResult (λ p. cmp p.0 k) l r → is_ok r ≡ is_some (index_of eq l k)
  search_finds [] sorted k (Ok i) within at = absurd (omega (arith, within))
  search_finds (p ∷ ps) sorted k (Ok i) within at =
      let q = slice_index_or (p ∷ ps) i p in
      let here : eq k q.0 ≡ true = symmetric q.0 k ∙ matches q.0 k ∙ ap is_eq (at p) in
      sym (ap is_some (index_by_is (eq k) (p ∷ ps)) ∙ is_some_position (λ r. eq k r.0) (p ∷ ps) ∙ list_any_at (λ r. eq k r.0) (p ∷ ps) i p within here)
    where
      eq_reversed : (r : Ordering) → is_eq (ordering_reverse r) ≡ is_eq r
      eq_reversed Less = refl
      eq_reversed Equal = refl
      eq_reversed Greater = refl

      symmetric : (x y : K) → eq y x ≡ eq x y
      symmetric x y = matches y x ∙ ap is_eq (o.antisymm y x) ∙ eq_reversed (cmp x y) ∙ sym (matches x y)
  search_finds l sorted k (Err i) within ends = sym (ap is_some (absent_index l sorted k i ends))

-- The same at numbers.
module _ {V : Type 0} where
  pub search_finds_at_numbers : (l : List (ℕ × V)) → IsSortedByKey (λ p. p.0) nat_cmp l → (k : ℕ) (r : Result ℕ ℕ) → IsSearchInRange r (length l) → IsBinarySearchResult (λ p. nat_cmp p.0 k) l r → is_ok r ≡ is_some (index_of nat_eq l k)
  search_finds_at_numbers = search_finds nat_eq nat_cmp nat_cmp_total unsigned_ties

  pub sorted_after_at_numbers : (l : List (ℕ × V)) → IsSortedByKey (λ p. p.0) nat_cmp l → (k : ℕ) (v : V) (i : ℕ) → i ≤ length l → IsBinarySearchResult (λ p. nat_cmp p.0 k) l (Err i) → IsSortedByKey (λ p. p.0) nat_cmp (put_at nat_eq l i k v)
  sorted_after_at_numbers = sorted_after nat_eq nat_cmp nat_cmp_total unsigned_ties
