-- After single changes, distinct keys stay distinct. What lookups find after an insertion, and in another order: if all
-- keys are distinct, one pair has a key that passes, in any order, and a lookup finds its value.
use Rattle.std.specs.{Cmp.IsEquivalence, List.{IsDistinct, Sorted.IsPermutation}, Map.{keys_of, set_value, IsKeyTest, KeepsOthers}}
use Rattle.std.proofs.Common.{◌≡◌, ◌∙◌, ℕ, suc, Bool, List, drop, remove, subst, sym, take, ◌++◌, arith, true, [], ◌∷◌, Some, cond, Contains, ap, inl, inr, refl}
use Rattle.std.proofs.lemmas.{Bool.cases_Bool, List.{drop-map, map-append, take-map, Sorted.{IsPermutation-map, Contains-permutation, IsPermutation-sym}}}
use Rattle.std.proofs.lemmas.{Map.{keys-set_value, Entries.lookup_from_place}, Option.{none-some, same_Some, slice_get-get_or}}
use Rattle.vecmap_base.specs.{Lookups.UpdatesBy, Pairs.{HasDistinctKeys, put, lookup_by}}
use Rattle.vecmap_base.proofs.{DistinctLemmas.{distinct_add, distinct_rearranged, distinct_remove}, PairsLemmas.Keys.keys_of_put}

module _ {K V : Type 0} where
  pub keys_of_remove : (l : List (K × V)) (i : ℕ) → keys_of (remove l i) ≡ remove (keys_of l) i
  keys_of_remove l i = map-append (λ p. p.0) (take i l) (drop (suc i) l) ∙ sym (λ t. take-map (λ p. p.0) i l t ++ drop-map (λ p. p.0) (suc i) l t)

module _ {K V : Type 0} (eq : K → K → Bool) where
  pub distinct_keys_set_value : (test : K → Bool) (l : List (K × V)) (v : V) → HasDistinctKeys eq l → HasDistinctKeys eq (set_value test l v)
  distinct_keys_set_value test l v d = subst (IsDistinct eq) (sym (keys-set_value test l v)) d

  pub distinct_keys_remove : (l : List (K × V)) (i : ℕ) → HasDistinctKeys eq l → HasDistinctKeys eq (remove l i)
  distinct_keys_remove l i d = subst (IsDistinct eq) (sym (keys_of_remove l i)) (distinct_remove eq (keys_of l) i d)

  module _ (o : IsEquivalence eq) where
    pub distinct_put : (l : List (K × V)) (k : K) (v : V) → HasDistinctKeys eq l → HasDistinctKeys eq (put eq l k v)
    distinct_put l k v d = subst (IsDistinct eq) (sym (keys_of_put eq l k v)) (distinct_add eq o (keys_of l) k d)

    pub distinct_keys_rearranged : (l m : List (K × V)) → IsPermutation l m → HasDistinctKeys eq l → HasDistinctKeys eq m
    distinct_keys_rearranged l m p = distinct_rearranged eq o (keys_of l) (keys_of m) (IsPermutation-map (λ q. q.0) l m p)

module _ {K : Type 0} (eq : K → K → Bool) (o : IsEquivalence eq) (test : K → Bool) (respects : IsKeyTest eq test) where
  -- A query matches both of two equal keys, or neither.
  pub same_answer : (x y : K) → eq x y ≡ true → test x ≡ test y
  same_answer x y e = grind (arith, cases_Bool)

  -- A query that matches a key is the comparison with this key.
  pub compares_with : (k : K) → test k ≡ true → test ≡ eq k
  compares_with k h = λ i x. respects k x h i

module _ {K V : Type 0} (eq : K → K → Bool) (o : IsEquivalence eq) where
  module _ (test : K → Bool) (respects : IsKeyTest eq test) where
    -- After an insertion, a query finds the value if it matches the key, and otherwise what it found before.
    pub lookup_by_put : (l : List (K × V)) (k : K) (v : V) → lookup_by test (put eq l k v) ≡ cond (test k) (Some v) (lookup_by test l)
    lookup_by_put [] k v = grind (arith, cases_Bool, same_answer)
    lookup_by_put (p ∷ ps) k v = grind (arith, cases_Bool, same_answer, (lookup_by_put ps k v))

  -- After an insertion, its key has the value, and each other key what it had.
  pub updates_put : (l : List (K × V)) (k : K) (v : V) → UpdatesBy eq (eq k) l (put eq l k v) (Some v)
  unfolding KeepsOthers
  updates_put l k v = grind (arith, lookup_by_put, distinct_put)

  -- The same of a list that is known to be the one after the insertion.
  pub updates_of_put : (l m : List (K × V)) (k : K) (v : V) → m ≡ put eq l k v → UpdatesBy eq (eq k) l m (Some v)
  updates_of_put l m k v e = subst (λ n. UpdatesBy eq (eq k) l n (Some v)) (sym e) (updates_put l k v)

module _ {K V : Type 0} (test : K → Bool) where
  -- What a lookup finds is the value of a pair whose key passes the test.
  pub pair_of_value : (l : List (K × V)) (v : V) → lookup_by test l ≡ Some v → (p : K × V) × Contains l p × (test p.0 ≡ true) × (p.1 ≡ v)
  pair_of_value [] v e = absurd (none-some v e)
  pair_of_value (p ∷ ps) v e =
      elim (cases_Bool (test p.0)) [
        | inl same ↦ (p, (0, omega arith, refl), same, same_Some p.1 v (sym (ap (λ b. cond b (Some p.1) (lookup_by test ps)) same) ∙ e))
        | inr apart ↦
            let r = pair_of_value ps v (sym (ap (λ b. cond b (Some p.1) (lookup_by test ps)) apart) ∙ e) in
            (r.0, (suc r.1.0, omega (arith, r.1.1), r.1.2), r.2, r.3)
      ]

module _ {K V : Type 0} (eq : K → K → Bool) (o : IsEquivalence eq) (test : K → Bool) (respects : IsKeyTest eq test) where
  found_there : (l m : List (K × V)) → HasDistinctKeys eq m → IsPermutation l m → (v : V) → lookup_by test l ≡ Some v → lookup_by test m ≡ Some v
  found_there l m d moved v e =
      let r = pair_of_value test l v e in
      let c = Contains-permutation l m r.0 moved r.1 in
      ap (λ f. lookup_by f m) (compares_with eq o test respects r.0.0 r.2) ∙ lookup_from_place o m c.0 r.0.0 r.0.1 d (slice_get-get_or m c.0 r.0 c.1 ∙ ap Some c.2) ∙ ap Some r.3

  -- If all keys are distinct, lookups do not depend on the order.
  pub lookup_by_rearranged : (l m : List (K × V)) → IsPermutation l m → HasDistinctKeys eq l → lookup_by test m ≡ lookup_by test l
  lookup_by_rearranged l m moved d = grind (arith, found_there, distinct_keys_rearranged, IsPermutation-sym)
