-- What lookups find after a removal and after a write of a value, in the words of contracts.
use Rattle.std.specs.{Cmp.IsEquivalence, List.AllByRecursion, List.IsDistinct, List.Sorted.IsPermutation, Map.AreApart, Map.IsKeyTest, Map.KeepsOthers, Map.keys_of, Map.set_value, Option.option_and_then, Option.option_map_or}
use Rattle.std.proofs.Common.{arith, ◌≡◌, ◌∙◌, ◌-◌, ◌++◌, ℕ, Bool, true, false, List, [], ◌∷◌, None, Option, Some, IsSome, ap, cond, inl, inr, insert, is_some, length, min, refl, remove, slice_get, subst, sym}
use Rattle.std.proofs.{lemmas.Bool.cases_Bool, lemmas.List.map-set, lemmas.List.Quantifiers.position-Some}
use Rattle.std.proofs.{lemmas.List.Sorted.IsPermutation-insert, lemmas.Map.Entries.none_past_head, lemmas.Option.get_or_from_slice_get}
use Rattle.std.proofs.lemmas.Map.{NonePasses, lookup-none, none_passes_from_lookup}
use Rattle.std.proofs.lemmas.Map.Keys.{IsDistinct-cons, IsDistinct-tail}
use Rattle.vecmap_base.specs.Lookups.{KeepsLookups, UpdatesBy}
use Rattle.vecmap_base.specs.Pairs.{HasDistinctKeys, index_by, index_of, lookup, lookup_by, put, put_at, put_key, value_at, with_pair, with_value, without_by}
use Rattle.vecmap_base.proofs.DistinctLemmas.{distinct_replace}
use Rattle.vecmap_base.proofs.PairsLemmas.ByIndex.{index_by_is, is_some_lookup_by, lookup_by_index, put_key_by_index, set_value_by_index, without_by_index}
use Rattle.vecmap_base.proofs.PairsLemmas.Keys.{index_of_is}
use Rattle.vecmap_base.proofs.PairsLemmas.LookupsAfterChanges.{distinct_keys_rearranged, distinct_keys_set_value, distinct_put, compares_with, same_answer, updates_of_put, updates_put, lookup_by_rearranged}
use Rattle.vecmap_base.proofs.{PairsLemmas.Puts.put_absent, TakenLemmas.{TakesFirst, first_by_shift}}

module _ {K V : Type 0} (test : K → Bool) (v : V) where
  -- A query finds the value that was written at its match.
  pub written_found : (l : List (K × V)) → IsSome (lookup_by test l) → lookup_by test (set_value test l v) ≡ Some v
  written_found [] some = grind (arith)
  written_found (p ∷ ps) some = grind (arith, cases_Bool, (written_found ps))

  -- A query that matches no such key finds what it found.
  written_apart : (other : K → Bool) → AreApart test other → (l : List (K × V)) → lookup_by other (set_value test l v) ≡ lookup_by other l
  written_apart other apart [] = refl
  written_apart other apart (p ∷ ps) = grind (arith, cases_Bool, (written_apart other apart ps))

module _ {K V : Type 0} (eq : K → K → Bool) (o : IsEquivalence eq) (test : K → Bool) (respects : IsKeyTest eq test) where
  -- The record from three of its facts: what the query finds, that other queries find the same, and distinct keys.
  updates_from : (l m : List (K × V)) (w : Option V) → lookup_by test m ≡ w → ((other : K → Bool) → IsKeyTest eq other → AreApart test other → lookup_by other m ≡ lookup_by other l)
      → (HasDistinctKeys eq l → HasDistinctKeys eq m) → UpdatesBy eq test l m w
  unfolding KeepsOthers
  updates_from l m w here apart distinct = grind (arith, cases_Bool, compares_with)

  -- The removal of a pair whose key passes, wherever the other pairs go.
  updates_taken : (l s : List (K × V)) (p : K × V) → HasDistinctKeys eq l → test p.0 ≡ true → IsPermutation l (p ∷ s) → UpdatesBy eq test l s None
  updates_taken l s p d h moved =
      let all = distinct_keys_rearranged eq o l (p ∷ s) moved d in
      updates_from l s None
      (ap (λ f. lookup_by f s) (compares_with eq o test respects p.0 h) ∙ lookup-none (eq p.0) s (none_past_head o p.0 p s all (o.refl p.0)))
      (λ other tells apart. sym (ap (λ b. cond b (Some p.1) (lookup_by other s)) (apart p.0 h)) ∙ lookup_by_rearranged eq o other tells l (p ∷ s) moved d)
      (λ e. IsDistinct-tail eq p.0 _ all)

  -- Whichever pair is removed, and wherever the other pairs go, a query that matches its key finds nothing.
  pub lookup_by_taken : (l s : List (K × V)) (p : K × V) → HasDistinctKeys eq l → IsPermutation l (p ∷ s) → lookup_by test s ≡ cond (test p.0) None (lookup_by test l)
  lookup_by_taken l s p d moved =
      elim (cases_Bool (test p.0)) [
        | inl h ↦ (updates_taken l s p d h moved).own ∙ sym (ap (λ b. cond b None (lookup_by test l)) h)
        | inr n ↦
            sym (ap (λ b. cond b (Some p.1) (lookup_by test s)) n)
            ∙ lookup_by_rearranged eq o test respects l (p ∷ s) moved d ∙ sym (ap (λ b. cond b None (lookup_by test l)) n)
      ]

  -- The key of the pair at the index that a query finds passes.
  pub key_passes : (l : List (K × V)) (i : ℕ) (p : K × V) → index_by test l ≡ Some i → slice_get l i ≡ Some p → test p.0 ≡ true
  key_passes l i p e at = ap (λ q. test q.0) (sym (get_or_from_slice_get l i p p at)) ∙ (position-Some (λ q. test q.0) l i p (sym (index_by_is test l) ∙ e)).1

  -- If nothing passes, nothing is removed.
  updates_nothing : (l : List (K × V)) → index_by test l ≡ None → UpdatesBy eq test l l None
  updates_nothing l e = updates_from l l None (lookup_by_index test l ∙ ap (option_and_then (value_at l)) e) (λ other tells apart. refl) (λ d. d)

  -- After the removal of its match from a list of distinct keys, a query matches nothing, and each other key has what it had.
  pub updates_of_first : (l m : List (K × V)) → TakesFirst l m (λ p. test p.0) → HasDistinctKeys eq l → UpdatesBy eq test l m None
  updates_of_first l m (inl n) d = subst (λ k. UpdatesBy eq test l k None) (sym n.1) (updates_nothing l (index_by_is test l ∙ n.0))
  updates_of_first l m (inr t) d = updates_taken l m t.1 d t.4 t.2.1

  -- The same of a list that is known to be what the removal leaves.
  pub updates_of_without : (l m : List (K × V)) → m ≡ without_by test l → HasDistinctKeys eq l → UpdatesBy eq test l m None
  updates_of_without l m e = updates_of_first l m (first_by_shift l m (λ p. test p.0) (e ∙ without_by_index test l ∙ ap (λ found. option_map_or (λ i. remove l i) found l) (index_by_is test l)))

  -- After a write of the value of a present key, the key has the value, and each other key has what it had.
  pub updates_write : (l : List (K × V)) (v : V) → IsSome (lookup_by test l) → UpdatesBy eq test l (set_value test l v) (Some v)
  updates_write l v some = updates_from l (set_value test l v) (Some v) (written_found test v l some) (λ other tells apart. written_apart test v other apart l) (distinct_keys_set_value eq test l v)

  -- The same, if the list before had another value at that key alone, and the write goes to the index of the key.
  pub updates_written_at : (l m : List (K × V)) (w : Option V) (i : ℕ) (v : V) → UpdatesBy eq test l m w → index_by test m ≡ Some i → UpdatesBy eq test l (with_value m i v) (Some v)
  unfolding KeepsOthers
  updates_written_at l m w i v u at =
      let some : IsSome (lookup_by test m) = is_some_lookup_by test m ∙ ap is_some at in
      let here : set_value test m v ≡ with_value m i v = set_value_by_index test m v ∙ ap (λ o. option_map_or (λ j. with_value m j v) o m) at in
      let next = subst (λ n. UpdatesBy eq test m n (Some v)) here (updates_write m v some) in
      updates_from l (with_value m i v) (Some v) next.own (λ other tells apart. next.queries other tells apart ∙ u.queries other tells apart) (λ d. next.distinct (u.distinct d))

  -- If nothing changes, a query has the value that it finds.
  pub updates_matched : (l : List (K × V)) → UpdatesBy eq test l l (lookup_by test l)
  updates_matched l = updates_from l l (lookup_by test l) refl (λ other tells apart. refl) (λ d. d)

  -- After a pair is appended whose key alone a query matches, the query has its value.
  pub updates_appended : (l m : List (K × V)) (p : K × V) → m ≡ l ++ p ∷ [] → index_by test l ≡ None → test p.0 ≡ true → UpdatesBy eq test l m (Some p.1)
  updates_appended l m p e miss hit =
      let same : test ≡ eq p.0 = compares_with eq o test respects p.0 hit in
      let absent : index_of eq l p.0 ≡ None = ap (λ f. index_by f l) (sym same) ∙ miss in
      subst (λ f. UpdatesBy eq f l m (Some p.1)) (sym same) (updates_of_put eq o l m p.0 p.1 (e ∙ sym (put_absent eq l p.0 p.1 absent)))

  -- The same, if the value is the one that the query finds.
  pub updates_appended_found : (l m : List (K × V)) (p : K × V) → m ≡ l ++ p ∷ [] → index_by test l ≡ None → test p.0 ≡ true → UpdatesBy eq test l m (lookup_by test m)
  updates_appended_found l m p e miss hit =
      let u = updates_appended l m p e miss hit in
      subst (UpdatesBy eq test l m) (sym u.own) u

module _ {K V : Type 0} (eq : K → K → Bool) (o : IsEquivalence eq) where
  -- A list of distinct keys in another order finds the same.
  pub lookups_rearranged : (l m : List (K × V)) → IsPermutation l m → HasDistinctKeys eq l → KeepsLookups eq l m
  lookups_rearranged l m moved d = record {
    lookups = λ q. lookup_by_rearranged eq o (eq q) (o.congr q) l m moved d;
    queries = λ test respects. lookup_by_rearranged eq o test respects l m moved d;
    distinct = distinct_keys_rearranged eq o l m moved d;
  }

  -- An insertion that takes the new key finds the same as one that keeps the old key.
  pub put_key_finds_as_put : (test : K → Bool) → IsKeyTest eq test → (l : List (K × V)) (k : K) (v : V) → lookup_by test (put_key eq l k v) ≡ lookup_by test (put eq l k v)
  put_key_finds_as_put test respects [] k v = grind (arith, cases_Bool, same_answer)
  put_key_finds_as_put test respects (p ∷ ps) k v = grind (arith, cases_Bool, same_answer, (put_key_finds_as_put test respects ps k v))

  -- The keys stay distinct after such an insertion.
  pub distinct_put_key : (l : List (K × V)) (k : K) (v : V) → HasDistinctKeys eq l → HasDistinctKeys eq (put_key eq l k v)
  distinct_put_key l k v d = subst (HasDistinctKeys eq) (sym (put_key_by_index eq l k v)) (by (index_of eq l k) refl)
    where
      by : (found : Option ℕ) → index_of eq l k ≡ found → HasDistinctKeys eq (option_map_or (λ i. with_pair l i k v) found (l ++ (k, v) ∷ []))
      by None e = subst (HasDistinctKeys eq) (put_absent eq l k v e) (distinct_put eq o l k v d)
      by (Some i) e =
          let at = position-Some (eq k) (keys_of l) i k (sym (index_of_is eq l k) ∙ e) in
          subst (IsDistinct eq) (sym (map-set (λ p. p.0) l i (k, v))) (distinct_replace eq o (keys_of l) i k at.0 at.1 d)

  none_of_keys : (k : K) (l : List (K × V)) → NonePasses (eq k) l → AllByRecursion (λ y. eq k y ≡ false) (keys_of l)
  none_of_keys k [] h = tt
  none_of_keys k (p ∷ ps) h = (h.0, none_of_keys k ps h.1)

  pub updates_put_key : (l m : List (K × V)) (k : K) (v : V) → m ≡ put_key eq l k v → UpdatesBy eq (eq k) l m (Some v)
  unfolding KeepsOthers
  updates_put_key l m k v e =
      let u = updates_put eq o l k v in
      subst (λ n. UpdatesBy eq (eq k) l n (Some v)) (sym e)
      (updates_from eq o (eq k) (o.congr k) l (put_key eq l k v) (Some v) (put_key_finds_as_put (eq k) (o.congr k) l k v ∙ u.own)
      (λ other tells apart. put_key_finds_as_put other tells l k v ∙ u.queries other tells apart) (distinct_put_key l k v))

  -- After an insertion at an index into a list of distinct keys, the key has the value, and each other key has what it had.
  pub updates_put_at : (l m : List (K × V)) (i : ℕ) (k : K) (v : V) → m ≡ put_at eq l i k v → HasDistinctKeys eq l → UpdatesBy eq (eq k) l m (Some v)
  unfolding KeepsOthers
  updates_put_at l m i k v e d = subst (λ n. UpdatesBy eq (eq k) l n (Some v)) (sym e) (by (index_of eq l k) refl)
    where
      inserted : (s : List (K × V)) (j : ℕ) → UpdatesBy eq (eq k) l s None → UpdatesBy eq (eq k) l (insert s j (k, v)) (Some v)
      inserted s j u =
          let all : HasDistinctKeys eq ((k, v) ∷ s) = IsDistinct-cons eq k (keys_of s) (none_of_keys k s (none_passes_from_lookup (eq k) s u.own)) (u.distinct d) in
          let moved = IsPermutation-insert s j (k, v) in
          updates_from eq o (eq k) (o.congr k) l (insert s j (k, v)) (Some v)
          (lookup_by_rearranged eq o (eq k) (o.congr k) ((k, v) ∷ s) (insert s j (k, v)) moved all ∙ ap (λ b. cond b (Some v) (lookup eq s k)) (o.refl k))
          (λ other tells apart. lookup_by_rearranged eq o other tells ((k, v) ∷ s) (insert s j (k, v)) moved all
          ∙ ap (λ b. cond b (Some v) (lookup_by other s)) (apart k (o.refl k)) ∙ u.queries other tells apart)
          (λ h. distinct_keys_rearranged eq o ((k, v) ∷ s) (insert s j (k, v)) moved all)

      left : UpdatesBy eq (eq k) l (option_map_or (λ j. remove l j) (index_of eq l k) l) None
      left = updates_of_first eq o (eq k) (o.congr k) l _ (first_by_shift l _ (λ p. eq k p.0) (ap (λ f. option_map_or (λ j. remove l j) f l) (index_by_is (eq k) l))) d

      by : (found : Option ℕ) → index_of eq l k ≡ found → UpdatesBy eq (eq k) l (put_at eq l i k v) (Some v)
      by None f =
          subst (λ r. UpdatesBy eq (eq k) l (option_map_or (λ j. insert (remove l j) (min i (length l - 1)) (k, v)) r (insert l i (k, v))) (Some v)) (sym f)
          (inserted l i (subst (λ r. UpdatesBy eq (eq k) l (option_map_or (λ j. remove l j) r l) None) f left))
      by (Some j) f =
          subst (λ r. UpdatesBy eq (eq k) l (option_map_or (λ j. insert (remove l j) (min i (length l - 1)) (k, v)) r (insert l i (k, v))) (Some v)) (sym f)
          (inserted (remove l j) (min i (length l - 1)) (subst (λ r. UpdatesBy eq (eq k) l (option_map_or (λ j. remove l j) r l) None) f left))
