-- How often elements occur in a list, up to an equivalence.
use Rattle.std.specs.Prelude.{◌≡◌, ℕ, ◌+◌, ◌<◌, Bool, true, false, ◌&&◌, nat_eq, List, [], ◌∷◌, length, remove, refl}
use Rattle.std.specs.{Cmp.{IsEquivalence, both_ways}, List.{count_by, list_all, list_any}}
use Rattle.std.proofs.{Common.{cond, get_or, sym, ap, ◌∙◌, arith, true≢false}, lemmas.List.Edits.length-remove}
use Rattle.std.proofs.lemmas.Bool.{and_from, and_parts, cases_Bool, eq-eqb, eqb-true, false_from_ne_true, or_left, or_parts, or_right}
use Rattle.std.proofs.{lemmas.List.Folds.Any-from_list_any, lemmas.List.Sums.{sum_by-cons, sum_by-remove}}

module _ {X : Type 0} (same : X → X → Bool) (o : IsEquivalence same) where
  abbrev pub many : List X → X → ℕ
  many l x = count_by (same x) l

  abbrev pub all_agree : List X → List X → List X → Bool
  all_agree xs a b = list_all (λ x. nat_eq (many a x) (many b x)) xs

  abbrev pub as_often : List X → List X → Bool
  as_often a b = all_agree a a b && all_agree b a b

  -- Each element occurs equally often in both lists.
  abbrev pub SameCounts : List X → List X → Type 0
  SameCounts a b = (x : X) → many a x ≡ many b x

  pub many_cons : (x : X) (xs : List X) (y : X) → many (x ∷ xs) y ≡ cond (same y x) 1 0 + many xs y
  many_cons x xs y = sum_by-cons (λ z. cond (same y z) 1 0) x xs

  many-congr : (l : List X) (x y : X) → same x y ≡ true → many l x ≡ many l y
  many-congr l x y e = λ t. count_by (λ z. o.congr x y z e t) l

  pub many_absent : (l : List X) (x : X) → list_any (same x) l ≡ false → many l x ≡ 0
  many_absent [] x e = grind (arith, or_parts, many_cons, many)
  many_absent (y ∷ ys) x e = grind (arith, or_parts, many_cons, many, (many_absent ys x))

  pub many_present : (l : List X) (x : X) → list_any (same x) l ≡ true → 0 < many l x
  many_present [] x e = grind (arith, cases_Bool, many_cons)
  many_present (y ∷ ys) x e = grind (arith, cases_Bool, many_cons, (many_present ys x))

  pub agreed : (xs a b : List X) (x : X) → all_agree xs a b ≡ true → list_any (same x) xs ≡ true → many a x ≡ many b x
  agreed [] a b x e h = grind (arith, and_parts, many, all_agree, cases_Bool, many-congr, eqb-true)
  agreed (y ∷ ys) a b x e h = grind (arith, and_parts, many, all_agree, cases_Bool, many-congr, eqb-true, (agreed ys a b x))

  pub agree_everywhere : (xs a b : List X) → SameCounts a b → all_agree xs a b ≡ true
  agree_everywhere [] a b h = refl
  agree_everywhere (x ∷ xs) a b h = and_from _ _ (eq-eqb (many a x) (many b x) (h x)) (agree_everywhere xs a b h)

  pub counts_from_test : (a b : List X) → as_often a b ≡ true → SameCounts a b
  counts_from_test a b e x = grind (arith, and_parts, all_agree, cases_Bool, agreed, many_absent)

  pub test_from_counts : (a b : List X) → SameCounts a b → as_often a b ≡ true
  test_from_counts a b h = and_from _ _ (agree_everywhere a a b h) (agree_everywhere b a b h)

  -- Equality of counts is an equivalence on all lists, also on lists with duplicates.
  pub as_often_laws : IsEquivalence as_often
  as_often_laws = record {
    refl = λ a. test_from_counts a a (λ x. refl);
    symm = λ a b. both_ways _ _ (turn a b) (turn b a);
    congr = λ a b c e. both_ways _ _ (λ f. chain b a c (turn a b e) f) (λ f. chain a b c e f);
  }
    where
      turn : (a b : List X) → as_often a b ≡ true → as_often b a ≡ true
      turn a b e = test_from_counts b a (λ x. sym (counts_from_test a b e x))

      chain : (a b c : List X) → as_often a b ≡ true → as_often b c ≡ true → as_often a c ≡ true
      chain a b c e f = test_from_counts a c (λ x. counts_from_test a b e x ∙ counts_from_test b c f x)

  -- A list with an element that is the same as `x`, and the list without one such element.
  record Less (x : X) (l : List X) : Type 0 where
    rest : List X
    shorter : length rest + 1 ≡ length l
    counts : (z : X) → many l z ≡ cond (same z x) 1 0 + many rest z

  less : (x : X) (l : List X) → list_any (same x) l ≡ true → Less x l
  less x l e =
      let at = Any-from_list_any (same x) l e in
      record {
        rest = remove l at.0;
        shorter = length-remove l at.0 at.2;
        counts = λ z.
            let sum = sum_by-remove (λ y. cond (same z y) 1 0) l at.0 at.1 at.2 in
            let like : same z (get_or l at.0 at.1) ≡ same z x = ap (same z) at.3 ∙ o.symm z at.1 ∙ sym (o.congr x at.1 z at.4) ∙ o.symm x z in
            omega (arith, sum, ap {B = ℕ} (λ b. cond b 1 0) like);
      }

  found : (x : X) (xs b : List X) → many (x ∷ xs) x ≡ many b x → list_any (same x) b ≡ true
  found x xs b e = grind (arith, cases_Bool, many, many_absent, many_cons)

  -- The pigeonhole principle: in two lists of one length, equal counts of the elements of one list imply that all
  -- counts are equal.
  settled : (a b : List X) → length a ≡ length b → ((x : X) → list_any (same x) a ≡ true → many a x ≡ many b x) → SameCounts a b
  settled [] [] n h x = refl
  settled [] (y ∷ ys) n h x = absurd (omega arith)
  settled (x ∷ xs) b n h z =
      let here : list_any (same x) (x ∷ xs) ≡ true = or_left (same x x) (list_any (same x) xs) (o.refl x) in
      let part = less x b (found x xs b (h x here)) in
      let rest = settled xs part.rest (omega (arith, part.shorter)) (λ y e.
      omega (arith, h y (or_right (same y x) (list_any (same y) xs) e), many_cons x xs y, part.counts y)) in
      omega (arith, rest z, many_cons x xs z, part.counts z)

  -- Lists with equal counts have one length.
  one_length : (a b : List X) → SameCounts a b → length a ≡ length b
  one_length [] [] h = refl
  one_length [] (y ∷ ys) h = absurd (true≢false (sym (found y ys [] (sym (h y)))))
  one_length (x ∷ xs) b h =
      let part = less x b (found x xs b (h x)) in
      let rest = one_length xs part.rest (λ y. omega (arith, h y, many_cons x xs y, part.counts y)) in
      omega (arith, rest, part.shorter)

  pub lengths_differ : (a b : List X) → (length a ≡ length b → ⊥) → as_often a b ≡ false
  lengths_differ a b n = false_from_ne_true (as_often a b) (λ e. n (one_length a b (counts_from_test a b e)))

  -- For lists of one length, it is enough to compare the counts of the elements of one list.
  pub settled_by_half : (a b : List X) → length a ≡ length b → as_often a b ≡ all_agree a a b
  settled_by_half a b n = grind (arith, and_parts, all_agree, test_from_counts, settled, agreed)
