-- The laws of the equality of maps. They hold of all lists of pairs, also with duplicate keys. A map is equal to
-- itself, and to its clone if clones are equal to their originals.
use Rattle.std.specs.{Cmp.{IsEquivalence, both_ways, partial_equiv_from_equiv, nat_eq_equiv}, List.{list_any, Sorted.IsPermutation}, Map.keys_of}
use Rattle.std.specs.{Option.option_eq, Prelude.{ℕ, ◌+◌, false, ◌&&◌, ◌||◌, length, refl, ◌↔◌, IsTrue, Option, None, Some, nat_eq}}
use Rattle.std.proofs.Common.{◌≡◌, Bool, true, List, [], ◌∷◌, cond, sym, ap, ◌∙◌, arith, true≢false, inl, inr}
use Rattle.std.proofs.lemmas.{Bool.{and_from, and_parts, cases_Bool, or_parts}, Grind.common_steps, List.Sorted.sum_by-IsPermutation}
use Rattle.std.proofs.lemmas.Map.{Entries.entries_from_clone, Keys.{IsDistinct-head, IsDistinct-tail}, Steps.list_any_congr}
use Rattle.vecmap_base.specs.{Clones.ArePairClones, Equality.{count, counts_agree, has_same_counts, same_pair}, Pairs.{HasDistinctKeys, lookup}}
use Rattle.vecmap_base.proofs.{DistinctLemmas.none_equal, EqualityLemmas.Counts.{as_often, counts_from_test, many_cons, test_from_counts}}
use Rattle.vecmap_base.proofs.EqualityLemmas.Maps.{counts_as_often, same_pair_laws, map_equality_laws}
use Rattle.vecmap_base.proofs.EqualityLemmas.Partial.{partial_map_equal_by_half, partial_map_lengths_differ}
use Rattle.vecmap_laws.{specs.MapLaws.{agrees, lookups_agree}, proofs.LookupLemmas.{look, lookup_absent, lookup_congr}}
pub use Rattle.vecmap_base.proofs.EqualityLemmas.Maps.{map_equality_laws}

-- For crates that name `vecmap` and the laws alone.

module _ {X : Type 0} (same : X → X → Bool) (o : IsEquivalence same) where
  -- The order of a list makes no difference.
  pub rearranged_as_often : (a b : List X) → IsPermutation a b → as_often same o a b ≡ true
  rearranged_as_often a b p = test_from_counts same o a b (λ x. sym (sum_by-IsPermutation (λ z. cond (same x z) 1 0) a b p))

module _ {K V : Type 0} (key : K → K → Bool) (value : V → V → Bool) (k : IsEquivalence key) (v : IsEquivalence value) where
  -- The order of the pairs makes no difference.
  pub rearranged_maps_equal : (a b : List (K × V)) → IsPermutation a b → has_same_counts key value a b ≡ true
  rearranged_maps_equal a b p = counts_as_often key value k v a b ∙ rearranged_as_often (same_pair key value) (same_pair_laws key value k v) a b p

  pub map_lengths_differ : (a b : List (K × V)) → (length a ≡ length b → ⊥) → has_same_counts key value a b ≡ false
  map_lengths_differ = partial_map_lengths_differ key value k (partial_equiv_from_equiv v)

  -- For lists of one length, it is enough to compare the counts of the pairs of one list.
  pub map_equal_by_half : (a b : List (K × V)) → length a ≡ length b → has_same_counts key value a b ≡ counts_agree key value a a b
  map_equal_by_half = partial_map_equal_by_half key value k (partial_equiv_from_equiv v)

  -- How often a pair with the value `w` occurs in a list of distinct keys, if `o` is the lookup of its key.
  hits : Option V → V → ℕ
  hits None w = 0
  hits (Some x) w = cond (value w x) 1 0

  pair_more : (p : K × V) (ps : List (K × V)) (x : K) (w : V) (b : Bool) → key x p.0 ≡ b → count key value (p ∷ ps) (x, w) ≡ cond (b && value w p.1) 1 0 + count key value ps (x, w)
  pair_more p ps x w b e = many_cons (same_pair key value) (same_pair_laws key value k v) p ps (x, w) ∙ ap (λ c. cond (c && value w p.1) 1 0 + count key value ps (x, w)) e

  absent_not_counted : (l : List (K × V)) (x : K) (w : V) → list_any (key x) (keys_of l) ≡ false → count key value l (x, w) ≡ 0
  absent_not_counted [] x w e = refl
  absent_not_counted (p ∷ ps) x w e =
      let apart = or_parts (key x p.0) (list_any (key x) (keys_of ps)) e in
      let rest = absent_not_counted ps x w apart.1 in
      omega (arith, pair_more p ps x w false apart.0, rest)

  count_is_hits : (l : List (K × V)) (x : K) (w : V) → HasDistinctKeys key l → count key value l (x, w) ≡ hits (lookup key l x) w
  unfolding hits
  count_is_hits [] x w d = refl
  count_is_hits (p ∷ ps) x w d =
      let rest = count_is_hits ps x w (IsDistinct-tail key p.0 (keys_of ps) d) in
      elim (cases_Bool (key x p.0)) [
        | inl e ↦
            let apart = none_equal key p.0 (keys_of ps) (IsDistinct-head key p.0 (keys_of ps) d) in
            let none = absent_not_counted ps x w (list_any_congr k x p.0 (keys_of ps) e ∙ apart) in
            let here : count key value (p ∷ ps) (x, w) ≡ cond (value w p.1) 1 0 = omega (arith, pair_more p ps x w true e, none) in
            here ∙ ap (λ o. hits o w) (sym (look key p ps x true e))
        | inr e ↦
            let past : count key value (p ∷ ps) (x, w) ≡ count key value ps (x, w) = omega (arith, pair_more p ps x w false e) in
            past ∙ rest ∙ ap (λ o. hits o w) (sym (look key p ps x false e))
      ]

  hits_from_same : (a b : Option V) (w : V) → option_eq value a b ≡ true → hits a w ≡ hits b w
  unfolding hits
  hits_from_same None None w e = refl
  hits_from_same None (Some y) w e = absurd (true≢false (sym e))
  hits_from_same (Some x) None w e = absurd (true≢false (sym e))
  hits_from_same (Some x) (Some y) w e = ap (λ b. cond b 1 0) (v.symm w x ∙ v.congr x y w e ∙ v.symm y w)

  same_from_hits : (a b : Option V) → ((w : V) → hits a w ≡ hits b w) → option_eq value a b ≡ true
  unfolding hits
  same_from_hits None None h = refl
  same_from_hits None (Some y) h = absurd (let e : 0 ≡ cond (value y y) 1 0 = h y in let f = rw (v.refl y) at e in omega (arith, f))
  same_from_hits (Some x) None h = absurd (let e : cond (value x x) 1 0 ≡ 0 = h x in let f = rw (v.refl x) at e in omega (arith, f))
  same_from_hits (Some x) (Some y) h =
      elim (cases_Bool (value x y)) [
        | inl e ↦ e
        | inr e ↦ absurd (let f : cond (value x x) 1 0 ≡ cond (value x y) 1 0 = h x in let g = rw (v.refl x, e) at f in omega (arith, g))
      ]

  -- At each key, the two lookups are both none or have equal values.
  abbrev pub SameLookups : List (K × V) → List (K × V) → Type 0
  SameLookups a b = (x : K) → option_eq value (lookup key a x) (lookup key b x) ≡ true

  at_key : (keys : List K) (a b : List (K × V)) (x : K) → lookups_agree key value keys a b ≡ true → list_any (key x) keys ≡ true → option_eq value (lookup key a x) (lookup key b x) ≡ true
  at_key [] a b x e h = absurd (true≢false (sym h))
  at_key (y ∷ ys) a b x e h =
      let both = and_parts (option_eq value (lookup key a y) (lookup key b y)) (lookups_agree key value ys a b) e in
      elim (cases_Bool (key x y)) [
        | inl i ↦ (λ t. option_eq value (lookup_congr key k a x y i t) (lookup_congr key k b x y i t)) ∙ both.0
        | inr i ↦ at_key ys a b x both.1 (sym (ap (λ c. c || list_any (key x) ys) i) ∙ h)
      ]

  pub lookups_from_test : (a b : List (K × V)) → agrees key value a b ≡ true → SameLookups a b
  lookups_from_test a b e x = grind (arith, and_parts, cases_Bool, at_key, lookup_absent)

  each_agrees : (keys : List K) (a b : List (K × V)) → SameLookups a b → lookups_agree key value keys a b ≡ true
  each_agrees [] a b h = refl
  each_agrees (x ∷ xs) a b h = and_from _ _ (h x) (each_agrees xs a b h)

  pub test_from_lookups : (a b : List (K × V)) → SameLookups a b → agrees key value a b ≡ true
  test_from_lookups a b h = and_from _ _ (each_agrees (keys_of a) a b h) (each_agrees (keys_of b) a b h)

  -- If all keys are distinct, maps are equal exactly if all lookups agree.
  pub equality_is_agreement : (a b : List (K × V)) → HasDistinctKeys key a → HasDistinctKeys key b → has_same_counts key value a b ≡ agrees key value a b
  equality_is_agreement a b d e =
      both_ways _ _
      (λ h. test_from_lookups a b (λ x. same_from_hits (lookup key a x) (lookup key b x) (λ w. sym (count_is_hits a x w d) ∙ counts_from_test (same_pair key value) (same_pair_laws key value k v) a b (sym (counts_as_often key value k v a b) ∙ h) (x, w) ∙ count_is_hits b x w e)))
      (λ h. counts_as_often key value k v a b ∙ test_from_counts (same_pair key value) (same_pair_laws key value k v) a b (λ p. count_is_hits a p.0 p.1 d ∙ hits_from_same (lookup key a p.0) (lookup key b p.0) p.1 (lookups_from_test a b h p.0) ∙ sym (count_is_hits b p.0 p.1 e)))

  -- The same as one equivalence: each key has equal values, or none, in both lists.
  pub equal_where_lookups_agree : (a b : List (K × V)) → HasDistinctKeys key a → HasDistinctKeys key b → IsTrue (has_same_counts key value a b) ↔ ((x : K) → IsTrue (option_eq value (lookup key a x) (lookup key b x)))
  equal_where_lookups_agree a b d e = grind (arith, equality_is_agreement, lookups_from_test, test_from_lookups)

  same_options : ((x y : V) → value x y ≡ true → x ≡ y) → (a b : Option V) → option_eq value a b ≡ true → a ≡ b
  same_options same None None e = refl
  same_options same None (Some y) e = absurd (true≢false (sym e))
  same_options same (Some x) None e = absurd (true≢false (sym e))
  same_options same (Some x) (Some y) e = ap Some (same x y e)

  -- If `==` of values tells all values apart, each key has the same value, or none, in equal maps.
  pub lookups_of_equal : ((x y : V) → value x y ≡ true → x ≡ y) → (a b : List (K × V)) → IsTrue (has_same_counts key value a b) → HasDistinctKeys key a → HasDistinctKeys key b → (q : K) → lookup key a q ≡ lookup key b q
  lookups_of_equal same a b h d e q = same_options same (lookup key a q) (lookup key b q) ((equal_where_lookups_agree a b d e).0 h q)

module _ {K V : Type 0} (key : K → K → Bool) (value : V → V → Bool) (k : IsEquivalence key) (v : IsEquivalence value) where
  -- A map is equal to itself.
  pub equal_to_itself : (l : List (K × V)) → has_same_counts key value l l ≡ true
  equal_to_itself l = (map_equality_laws key value k v).refl l

  module _ (R : K → K → Type 0) (S : V → V → Type 0) (same_keys : (x y : K) → R x y → key x y ≡ true) (same_values : (x y : V) → S x y → value x y ≡ true) where
    clone_counts : (l m : List (K × V)) → ArePairClones R S l m → (x : K × V) → count key value l x ≡ count key value m x
    clone_counts [] [] c x = grind (arith, common_steps, same_pair_laws, many_cons)
    clone_counts [] (r ∷ rs) c x = grind (arith, common_steps, same_pair_laws, many_cons)
    clone_counts (p ∷ ps) [] c x = grind (arith, common_steps, same_pair_laws, many_cons)
    clone_counts (p ∷ ps) (r ∷ rs) c x = grind (arith, common_steps, same_pair_laws, many_cons, (clone_counts ps rs c.1 x))

    -- Clones of equal keys and equal values make an equal map.
    pub clones_equal : (l m : List (K × V)) → ArePairClones R S l m → has_same_counts key value l m ≡ true
    clones_equal l m c = counts_as_often key value k v l m ∙ test_from_counts (same_pair key value) (same_pair_laws key value k v) l m (clone_counts l m c)

-- Clones of numbers make the same list.
pub same_clones : {K V : Type 0} (R : K → K → Type 0) (S : V → V → Type 0) → ((x y : K) → R x y → y ≡ x) → ((v w : V) → S v w → w ≡ v) → (l m : List (K × V)) → ArePairClones R S l m → m ≡ l
same_clones R S = entries_from_clone R S

-- A map of numbers is equal to itself.
pub equal_to_itself_at_numbers : (l : List (ℕ × ℕ)) → has_same_counts nat_eq nat_eq l l ≡ true
equal_to_itself_at_numbers = equal_to_itself nat_eq nat_eq nat_eq_equiv nat_eq_equiv
