-- Keys that are distinct stay distinct in the lists that calls leave, in parts of a list, and in the pairs that pass a
-- test.
use Rattle.std.specs.{Cmp.IsEquivalence, List.{IsDistinct, swap_remove, remove_range}, Map.keys_of, Option.option_map_or}
use Rattle.std.proofs.Common.{arith, ◌≡◌, ℕ, Bool, List, Option, None, Some, slice_get, take, refl, sym, subst, ◌≤◌, ◌-◌, ◌++◌, drop, filter, slice_range, ◌∙◌}
use Rattle.std.proofs.lemmas.{List.{take-map, drop-map, map-append}, Map.Made.IsDistinct-keys_filter}
use Rattle.vecmap_base.specs.{Items.swap_without, Pairs.{HasDistinctKeys, put_at, puts, swap_without_by, swap_without_key, with_value, without_by}}
use Rattle.vecmap_base.proofs.{DistinctLemmas.{distinct_take, distinct_drop, distinct_remove_range}, PairsLemmas.ByIndex.without_by_index}
use Rattle.vecmap_base.proofs.PairsLemmas.{LookupsAfterChanges.distinct_keys_remove, ManyPairs.joins_of_puts, Updates.updates_put_at, Values.keys_of_with_value}
use Rattle.vecmap_base.proofs.RemovalLemmas.{distinct_swap_removed}

module _ {K V : Type 0} (eq : K → K → Bool) where
  pub distinct_keys_with_value : (l : List (K × V)) (i : ℕ) (v : V) → HasDistinctKeys eq l → HasDistinctKeys eq (with_value l i v)
  distinct_keys_with_value l i v d = subst (IsDistinct eq) (sym (keys_of_with_value l i v)) d

  pub distinct_keys_take : (l : List (K × V)) (n : ℕ) → HasDistinctKeys eq l → HasDistinctKeys eq (take n l)
  distinct_keys_take l n d = subst (IsDistinct eq) (take-map (λ p. p.0) n l) (distinct_take eq n (keys_of l) d)

  pub distinct_keys_without : (test : K → Bool) (l : List (K × V)) → HasDistinctKeys eq l → HasDistinctKeys eq (without_by test l)
  distinct_keys_without test l d = grind (arith, without_by_index, distinct_keys_remove)

  module _ (o : IsEquivalence eq) where
    pub distinct_keys_swap_without : (l : List (K × V)) (i : ℕ) → HasDistinctKeys eq l → HasDistinctKeys eq (swap_without l i)
    distinct_keys_swap_without l i d = by (slice_get l i) refl
      where
        by : (found : Option (K × V)) → slice_get l i ≡ found → HasDistinctKeys eq (swap_without l i)
        by None e = subst (λ found. HasDistinctKeys eq (option_map_or (λ p. swap_remove l i p) found l)) (sym e) d
        by (Some p) e = distinct_swap_removed l (swap_without l i) i p refl e eq o d

    pub distinct_keys_swap_without_by : (test : K → Bool) (l : List (K × V)) → HasDistinctKeys eq l → HasDistinctKeys eq (swap_without_by test l)
    distinct_keys_swap_without_by test l d = grind (arith, distinct_keys_swap_without)

    pub distinct_keys_swap_without_key : (l : List (K × V)) (k : K) → HasDistinctKeys eq l → HasDistinctKeys eq (swap_without_key eq l k)
    distinct_keys_swap_without_key l k = distinct_keys_swap_without_by (eq k) l

    pub distinct_puts : (l ps : List (K × V)) → HasDistinctKeys eq l → HasDistinctKeys eq (puts eq l ps)
    distinct_puts l ps = (joins_of_puts eq o l ps (puts eq l ps) refl).distinct

    pub distinct_put_at : (l : List (K × V)) (i : ℕ) (k : K) (v : V) → HasDistinctKeys eq l → HasDistinctKeys eq (put_at eq l i k v)
    distinct_put_at l i k v d = (updates_put_at eq o l (put_at eq l i k v) i k v refl d).distinct d

module _ {T : Type 0} (eq : T → T → Bool) where
  pub distinct_slice_range : (s : List T) (i j : ℕ) → IsDistinct eq s → IsDistinct eq (slice_range s i j)
  distinct_slice_range s i j d = distinct_take eq (j - i) (drop i s) (distinct_drop eq i s d)

module _ {K V : Type 0} where
  -- The keys and the values without those of a part of the list.
  pub keys_of_remove_range : (l : List (K × V)) (i j : ℕ) → keys_of (remove_range l i j) ≡ remove_range (keys_of l) i j
  keys_of_remove_range l i j = map-append (λ p. p.0) (take i l) (drop j l) ∙ sym (λ t. take-map (λ p. p.0) i l t ++ drop-map (λ p. p.0) j l t)

module _ {K V : Type 0} (eq : K → K → Bool) where
  pub distinct_keys_drop : (l : List (K × V)) (n : ℕ) → HasDistinctKeys eq l → HasDistinctKeys eq (drop n l)
  distinct_keys_drop l n d = subst (IsDistinct eq) (drop-map (λ p. p.0) n l) (distinct_drop eq n (keys_of l) d)

  pub distinct_keys_slice_range : (l : List (K × V)) (i j : ℕ) → HasDistinctKeys eq l → HasDistinctKeys eq (slice_range l i j)
  distinct_keys_slice_range l i j d = distinct_keys_take eq (drop i l) (j - i) (distinct_keys_drop l i d)

  pub distinct_keys_remove_range : (l : List (K × V)) (i j : ℕ) → i ≤ j → HasDistinctKeys eq l → HasDistinctKeys eq (remove_range l i j)
  distinct_keys_remove_range l i j order d = subst (IsDistinct eq) (sym (keys_of_remove_range l i j)) (distinct_remove_range eq (keys_of l) i j order d)

  pub distinct_keys_filter : (test : K × V → Bool) (l : List (K × V)) → HasDistinctKeys eq l → HasDistinctKeys eq (filter test l)
  distinct_keys_filter test l d = IsDistinct-keys_filter eq test l d
