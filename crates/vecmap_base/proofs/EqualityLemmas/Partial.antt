-- Equality of counts where an element may differ from itself, as a NaN does. Such elements are taken as equal to each
-- other, which makes an equivalence of the comparison. Lists that are equal have none of them.
use Rattle.std.proofs.Common.{rules}
use Rattle.std.specs.Prelude.{◌≡◌, ℕ, ◌<◌, Bool, true, false, ◌&&◌, not, nat_eq, List, [], ◌∷◌, length, refl}
use Rattle.std.specs.Cmp.{IsEquivalence, IsPartialEquivalence, both_ways, equiv, and_per, on_per, partial_equiv_from_equiv}
use Rattle.std.specs.List.{count_by, list_all, list_any}
use Rattle.std.proofs.{Common.{cond, get_or, sym, ap, ◌∙◌, arith, true≢false, inl, inr}, lemmas.List.Folds.list_all_at}
use Rattle.std.proofs.lemmas.Bool.{and_from, and_parts, cases_Bool, eq-eqb, ne_eqb, false_from_ne_true, or_left, or_right}
use Rattle.std.proofs.lemmas.List.Sums.{sum_by-cons}
use Rattle.vecmap_base.specs.Equality.{counts_agree, has_same_counts, same_pair}
use Rattle.vecmap_base.proofs.EqualityLemmas.Counts.{SameCounts, all_agree, as_often, as_often_laws, counts_from_test, lengths_differ, many_absent, many_present, settled_by_half}

module _ {X : Type 0} (same : X → X → Bool) (o : IsPartialEquivalence same) where
  -- Equal elements, and any two that differ from themselves.
  abbrev pub lumped : X → X → Bool
  lumped x y = cond (same x x) (same x y) (not (same y y))

  same_swapped : (x y : X) → same x y ≡ true → same y x ≡ true
  same_swapped x y e = sym (o.symm x y) ∙ e

  pub self_left : (x y : X) → same x y ≡ true → same x x ≡ true
  self_left x y e = o.trans x y x e (same_swapped x y e)

  pub self_right : (x y : X) → same x y ≡ true → same y y ≡ true
  self_right x y e = self_left y x (same_swapped x y e)

  pub at_self : (x y : X) → same x x ≡ true → lumped x y ≡ same x y
  at_self x y e = ap (λ b. cond b (same x y) (not (same y y))) e

  at_other : (x y : X) → same x x ≡ false → lumped x y ≡ not (same y y)
  at_other x y e = ap (λ b. cond b (same x y) (not (same y y))) e

  not_true : (b : Bool) → not b ≡ true → b ≡ false
  not_true true e = sym e
  not_true false e = refl

  pub lumped_if_same : (x y : X) → same x y ≡ true → lumped x y ≡ true
  lumped_if_same x y e = at_self x y (self_left x y e) ∙ e

  lumped_refl : (x : X) → lumped x x ≡ true
  lumped_refl x = elim (cases_Bool (same x x)) [ inl e ↦ at_self x x e ∙ e | inr e ↦ at_other x x e ∙ ap not e ]

  lumped_turned : (x y : X) → lumped x y ≡ true → lumped y x ≡ true
  lumped_turned x y h = grind (arith, cases_Bool, at_self, lumped_if_same, same_swapped, at_other, not_true)

  lumped_chain : (x y z : X) → lumped x y ≡ true → lumped y z ≡ true → lumped x z ≡ true
  lumped_chain x y z h k = grind (arith, cases_Bool, at_self, self_right, not_true, at_other)

  pub lumped_laws : IsEquivalence lumped
  lumped_laws = equiv (record { symm = λ x y. both_ways _ _ (lumped_turned x y) (lumped_turned y x); trans = lumped_chain }) lumped_refl

  -- Each of the elements is equal to itself.
  abbrev pub all_reflexive : List X → Bool
  all_reflexive xs = list_all (λ x. same x x) xs

  -- Each of the elements is equal to itself, and occurs equally often in both lists.
  abbrev pub agree : List X → List X → List X → Bool
  agree xs a b = list_all (λ x. same x x && nat_eq (count_by (same x) a) (count_by (same x) b)) xs

  abbrev pub equally_often : List X → List X → Bool
  equally_often a b = agree a a b && agree b a b

  abbrev pub lumps_agree : List X → List X → List X → Bool
  lumps_agree xs a b = all_agree lumped lumped_laws xs a b

  abbrev pub lumps_as_often : List X → List X → Bool
  lumps_as_often a b = as_often lumped lumped_laws a b

  counts_are : (x : X) (l : List X) → same x x ≡ true → count_by (lumped x) l ≡ count_by (same x) l
  counts_are x l e = λ t. count_by (λ z. at_self x z e t) l

  none_counted : (l : List X) (x : X) → same x x ≡ false → count_by (same x) l ≡ 0
  none_counted [] x e = grind (arith, false_from_ne_true, self_left, sum_by-cons)
  none_counted (y ∷ ys) x e = grind (arith, false_from_ne_true, self_left, sum_by-cons, (none_counted ys x e))

  pub to_reflexive : (xs a b : List X) → agree xs a b ≡ true → all_reflexive xs ≡ true
  to_reflexive [] a b h = grind (arith, and_parts, agree, and_from)
  to_reflexive (x ∷ xs) a b h = grind (arith, and_parts, agree, and_from, (to_reflexive xs a b))

  pub to_lumps : (xs a b : List X) → agree xs a b ≡ true → lumps_agree xs a b ≡ true
  to_lumps [] a b h = grind (arith, and_parts, agree, and_from, counts_are)
  to_lumps (x ∷ xs) a b h = grind (arith, and_parts, agree, and_from, counts_are, (to_lumps xs a b))

  pub from_lumps : (xs a b : List X) → all_reflexive xs ≡ true → lumps_agree xs a b ≡ true → agree xs a b ≡ true
  from_lumps [] a b s h = grind (arith, and_parts, all_reflexive, lumped, lumps_agree, and_from, counts_are)
  from_lumps (x ∷ xs) a b s h = grind (arith, and_parts, all_reflexive, lumped, lumps_agree, and_from, counts_are, (from_lumps xs a b))

  -- What equality of counts means: each element is equal to itself, and the counts are equal up to `lumped`.
  pub record Alike (a b : List X) : Type 0 where
    pub left : all_reflexive a ≡ true
    pub right : all_reflexive b ≡ true
    pub counts : lumps_as_often a b ≡ true

  pub alike : (a b : List X) → equally_often a b ≡ true → Alike a b
  alike a b h = grind (arith, and_parts, agree, to_reflexive, and_from, to_lumps)

  pub from_alike : (a b : List X) → Alike a b → equally_often a b ≡ true
  from_alike a b h = grind (arith, and_parts, lumps_agree, and_from, from_lumps)

  -- Equality of counts is symmetric and transitive.
  pub equally_often_laws : IsPartialEquivalence equally_often
  equally_often_laws = record { symm = λ a b. both_ways _ _ (turn a b) (turn b a); trans = chain }
    where
      turn : (a b : List X) → equally_often a b ≡ true → equally_often b a ≡ true
      turn a b e = let h = alike a b e in from_alike b a (record { left = h.right; right = h.left; counts = sym ((as_often_laws lumped lumped_laws).symm a b) ∙ h.counts })

      chain : (a b c : List X) → equally_often a b ≡ true → equally_often b c ≡ true → equally_often a c ≡ true
      chain a b c e f =
          let h = alike a b e in
          let k = alike b c f in
          from_alike a c (record { left = h.left; right = k.right; counts = (as_often_laws lumped lumped_laws).congr a b c h.counts ∙ k.counts })

  pub partial_lengths_differ : (a b : List X) → (length a ≡ length b → ⊥) → equally_often a b ≡ false
  partial_lengths_differ a b n = false_from_ne_true (equally_often a b) (λ e. true≢false (sym (alike a b e).counts ∙ lengths_differ lumped lumped_laws a b n))

  -- If counts are equal and one list has only elements that are equal to themselves, so has the other.
  reflexive_along : (xs : List X) (y : X) → all_reflexive xs ≡ true → list_any (lumped y) xs ≡ true → same y y ≡ true
  reflexive_along [] y s h = grind (arith, and_parts, all_reflexive, cases_Bool, lumped, self_right, at_self, lumped_turned)
  reflexive_along (x ∷ xs) y s h = grind (arith, and_parts, all_reflexive, cases_Bool, lumped, self_right, at_self, lumped_turned, (reflexive_along xs y))

  found_in : (a b : List X) (y : X) → SameCounts lumped lumped_laws a b → list_any (lumped y) b ≡ true → list_any (lumped y) a ≡ true
  found_in a b y h e =
      elim (cases_Bool (list_any (lumped y) a)) [
        | inl f ↦ f
        | inr f ↦
            let none = many_absent lumped lumped_laws a y f in
            let some = many_present lumped lumped_laws b y e in
            let equal = h y in
            absurd (omega (arith, none, some, equal))
      ]

  reflexive_by_counts : (ys a b : List X) → all_reflexive a ≡ true → SameCounts lumped lumped_laws a b → ((y : X) → list_any (lumped y) ys ≡ true → list_any (lumped y) b ≡ true) → all_reflexive ys ≡ true
  reflexive_by_counts [] a b s h within = search rules
  reflexive_by_counts (y ∷ ys) a b s h within = search (rules, and_from, reflexive_along, found_in, or_left, lumped_refl, or_right, (reflexive_by_counts ys a b s h))

  -- For lists of one length, it is enough to compare the counts of the elements of one list.
  pub partial_settled_by_half : (a b : List X) → length a ≡ length b → equally_often a b ≡ agree a a b
  partial_settled_by_half a b n = both_ways _ _ (λ e. (and_parts (agree a a b) (agree b a b) e).0) whole
    where
      whole : agree a a b ≡ true → equally_often a b ≡ true
      whole e =
          let left = to_reflexive a a b e in
          let counts = settled_by_half lumped lumped_laws a b n ∙ to_lumps a a b e in
          from_alike a b (record { left = left; right = reflexive_by_counts b a b left (counts_from_test lumped lumped_laws a b counts) (λ y h. h); counts = counts })

  pub disagree : (a b : List X) → lumps_agree a a b ≡ false → agree a a b ≡ false
  disagree a b h = false_from_ne_true (agree a a b) (λ e. true≢false (sym (to_lumps a a b e) ∙ h))

  -- A list with an element that differs from itself agrees with none.
  pub disagree_at : (a b : List X) (i : ℕ) (x : X) → i < length a → x ≡ get_or a i x → same x x ≡ false → agree a a b ≡ false
  disagree_at a b i x within at e = grind (arith, list_all_at)

  -- An element that is equal to itself, and only such a one, has a count in its own list that is not 0.
  abbrev pub occurs_alike : List X → List X → X → Bool
  occurs_alike a b x = not (nat_eq (count_by (same x) a) 0) && nat_eq (count_by (same x) a) (count_by (same x) b)

  occurs : (a : List X) (x : X) → list_any (lumped x) a ≡ true → not (nat_eq (count_by (same x) a) 0) ≡ same x x
  occurs a x h =
      elim (cases_Bool (same x x)) [
        | inl e ↦
            let some = many_present lumped lumped_laws a x h in
            let alike = counts_are x a e in
            ap not (ne_eqb (count_by (same x) a) 0 (λ none. omega (arith, none, some, alike))) ∙ sym e
        | inr e ↦ ap not (eq-eqb (count_by (same x) a) 0 (none_counted a x e)) ∙ sym e
      ]

  pub agree_by_occurrence : (xs a b : List X) → ((x : X) → list_any (lumped x) xs ≡ true → list_any (lumped x) a ≡ true) → list_all (occurs_alike a b) xs ≡ agree xs a b
  agree_by_occurrence [] a b within = grind (arith, occurs, or_left, lumped, lumped_refl, or_right)
  agree_by_occurrence (x ∷ xs) a b within = grind (arith, occurs, or_left, lumped, lumped_refl, or_right, (agree_by_occurrence xs a b))

-- If each element is equal to itself, the counts are all that is compared.
module _ {X : Type 0} (same : X → X → Bool) (o : IsEquivalence same) where
  agree_is : (xs a b : List X) → agree same (partial_equiv_from_equiv o) xs a b ≡ all_agree same o xs a b
  agree_is [] a b = refl
  agree_is (x ∷ xs) a b = λ t. (o.refl x t && nat_eq (count_by (same x) a) (count_by (same x) b)) && agree_is xs a b t

  pub equally_often_is : (a b : List X) → equally_often same (partial_equiv_from_equiv o) a b ≡ as_often same o a b
  equally_often_is a b = λ t. agree_is a a b t && agree_is b a b t

module _ {K V : Type 0} (key : K → K → Bool) (value : V → V → Bool) (k : IsEquivalence key) (v : IsPartialEquivalence value) where
  pub same_pair_partial : IsPartialEquivalence (same_pair key value)
  same_pair_partial = and_per (on_per (λ p. p.0) (partial_equiv_from_equiv k)) (on_per (λ p. p.1) v)

  -- The equality of maps is symmetric and transitive, also where a value may differ from itself.
  pub partial_map_equality_laws : IsPartialEquivalence (has_same_counts key value)
  partial_map_equality_laws = equally_often_laws (same_pair key value) same_pair_partial

  pub partial_map_lengths_differ : (a b : List (K × V)) → (length a ≡ length b → ⊥) → has_same_counts key value a b ≡ false
  partial_map_lengths_differ = partial_lengths_differ (same_pair key value) same_pair_partial

  -- For lists of one length, it is enough to compare the counts of the pairs of one list.
  pub partial_map_equal_by_half : (a b : List (K × V)) → length a ≡ length b → has_same_counts key value a b ≡ counts_agree key value a a b
  partial_map_equal_by_half = partial_settled_by_half (same_pair key value) same_pair_partial

  -- A pair that differs from itself is counted 0 times in its own list, and any other pair at least once.
  pub counts_agree_by_occurrence : (a b : List (K × V)) → list_all (occurs_alike (same_pair key value) same_pair_partial a b) a ≡ counts_agree key value a a b
  counts_agree_by_occurrence a b = agree_by_occurrence (same_pair key value) same_pair_partial a a b (λ x e. e)
