-- The laws of the equality of maps. They hold of all lists of pairs, also with duplicate keys. Equal pairs at the front
-- of both lists do not decide.
use Rattle.std.specs.{Cmp.{IsEquivalence, equiv, partial_equiv_from_equiv, IsPartialEquivalence, both_ways}, List.{AllZip, Sorted.IsPermutation}}
use Rattle.std.specs.Prelude.{◌≡◌, Bool, IsTrue, List, ℕ, zero, suc, true, [], ◌∷◌, drop, take, refl}
use Rattle.std.proofs.{Common.{arith, ◌∙◌}, lemmas.{Bool.{and_from, and_parts}, List.Sorted.sum_by-IsPermutation}}
use Rattle.vecmap_base.specs.Equality.{has_same_counts, same_pair}
use Rattle.vecmap_base.proofs.EqualityLemmas.Counts.{as_often, as_often_laws, test_from_counts, SameCounts, many_cons, counts_from_test}
use Rattle.vecmap_base.proofs.EqualityLemmas.Partial.{equally_often_is, partial_map_equality_laws, alike, all_reflexive, equally_often, from_alike, lumped, lumped_if_same, lumped_laws, same_pair_partial, self_left, self_right}

module _ {K V : Type 0} (key : K → K → Bool) (value : V → V → Bool) (k : IsEquivalence key) (v : IsEquivalence value) where
  pub same_pair_laws : IsEquivalence (same_pair key value)
  same_pair_laws = grind (arith, and_from, and_parts)

  -- Equality of maps counts pairs by `same_pair`.
  pub counts_as_often : (a b : List (K × V)) → has_same_counts key value a b ≡ as_often (same_pair key value) same_pair_laws a b
  counts_as_often = equally_often_is (same_pair key value) same_pair_laws

  -- Lists of the same pairs in another order are equal.
  pub equal_rearranged : (a b : List (K × V)) → IsPermutation a b → IsTrue (has_same_counts key value b a)
  equal_rearranged a b moved = grind (arith, counts_as_often, test_from_counts, same_pair_laws, sum_by-IsPermutation)

  pub map_equality_laws : IsEquivalence (has_same_counts key value)
  map_equality_laws = equiv (partial_map_equality_laws key value k (partial_equiv_from_equiv v)) (λ a. counts_as_often a a ∙ (as_often_laws (same_pair key value) same_pair_laws).refl a)

module _ {X : Type 0} (same : X → X → Bool) (o : IsEquivalence same) where
  same_counts-cons : (x y : X) (a b : List X) → same x y ≡ true → SameCounts same o a b → SameCounts same o (x ∷ a) (y ∷ b)
  same_counts-cons x y a b e h z = grind (arith, many_cons)

  same_counts-tail : (x y : X) (a b : List X) → same x y ≡ true → SameCounts same o (x ∷ a) (y ∷ b) → SameCounts same o a b
  same_counts-tail x y a b e h z = grind (arith, many_cons)

-- The same, where an element may differ from itself.
module _ {X : Type 0} (same : X → X → Bool) (o : IsPartialEquivalence same) where
  past_first : (x y : X) (a b : List X) → same x y ≡ true → equally_often same o a b ≡ equally_often same o (x ∷ a) (y ∷ b)
  past_first x y a b e = both_ways _ _ more less
    where
      together : lumped same o x y ≡ true
      together = lumped_if_same same o x y e

      more : equally_often same o a b ≡ true → equally_often same o (x ∷ a) (y ∷ b) ≡ true
      more f =
          let h = alike same o a b f in
          from_alike same o (x ∷ a) (y ∷ b) (record {
            left = and_from _ _ (self_left same o x y e) h.left;
            right = and_from _ _ (self_right same o x y e) h.right;
            counts = test_from_counts _ (lumped_laws same o) (x ∷ a) (y ∷ b) (same_counts-cons _ (lumped_laws same o) x y a b together (counts_from_test _ (lumped_laws same o) a b h.counts));
          })

      less : equally_often same o (x ∷ a) (y ∷ b) ≡ true → equally_often same o a b ≡ true
      less f =
          let h = alike same o (x ∷ a) (y ∷ b) f in
          from_alike same o a b (record {
            left = (and_parts (same x x) (all_reflexive same o a) h.left).1;
            right = (and_parts (same y y) (all_reflexive same o b) h.right).1;
            counts = test_from_counts _ (lumped_laws same o) a b (same_counts-tail _ (lumped_laws same o) x y a b together (counts_from_test _ (lumped_laws same o) (x ∷ a) (y ∷ b) h.counts));
          })

module _ {K V : Type 0} (key : K → K → Bool) (value : V → V → Bool) (k : IsEquivalence key) (v : IsPartialEquivalence value) where
  -- If two lists have equal pairs at the front, they are equal as maps exactly if their rests are.
  pub past_front : (n : ℕ) (a b : List (K × V)) → AllZip (λ p q. same_pair key value p q ≡ true) (take n a) (take n b) → has_same_counts key value (drop n a) (drop n b) ≡ has_same_counts key value a b
  past_front zero a b h = refl
  past_front (suc n) [] [] h = refl
  past_front (suc n) [] (q ∷ b) h = absurd h
  past_front (suc n) (p ∷ a) [] h = absurd h
  past_front (suc n) (p ∷ a) (q ∷ b) h = past_front n a b h.1 ∙ past_first (same_pair key value) (same_pair_partial key value k v) p q a b h.0
