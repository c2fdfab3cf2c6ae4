-- Items without a mark, and two lists whose items are matched one to one.
use Rattle.std.proofs.{lemmas.Grind.common_steps, Common.{drop, get_or, replicate, set, sym, ap, ◌∙◌, arith, true≢false, inl, inr}}
use Rattle.std.specs.Prelude.{◌≡◌, ℕ, zero, suc, ◌+◌, ◌-◌, ◌<◌, ◌≤◌, Bool, true, false, ◌&&◌, ◌||◌, not, List, [], ◌∷◌, None, Some, length, refl}
use Rattle.std.specs.{Cmp.{IsEquivalence, IsPartialEquivalence}, List.{list_any, sum_by}}
use Rattle.std.proofs.{lemmas.Bool.{and_from, cases_Bool, cases_lt, false_from_ne_true}, lemmas.Grind.get_or_after_one}
use Rattle.std.proofs.{lemmas.List.{at_drop_more, drop-replicate, drop_all, length-drop, nil_from_length}, lemmas.List.Folds.list_any_at}
use Rattle.std.proofs.{lemmas.List.Quantifiers.position-Some, lemmas.List.Sums.{sum_by-cons, sum_by-drop_more}}
use Rattle.vecmap_base.specs.{Equality.{free, same_pair}, Pairs.index_of}
use Rattle.vecmap_base.proofs.{EqualityLemmas.Counts.{agree_everywhere, agreed, all_agree, many, many_absent}, IndexLemmas.fails_everywhere}
use Rattle.vecmap_base.proofs.EqualityLemmas.Partial.{agree, all_reflexive, at_self, disagree, disagree_at, from_lumps, lumped, lumped_if_same, lumped_laws, self_left}
use Rattle.vecmap_base.proofs.PairsLemmas.ByIndex.{index_by_is}

module _ {X : Type 0} where
  pub free_unmarked : (xs : List X) (n : ℕ) → free xs (replicate n false) ≡ xs
  unfolding free
  free_unmarked [] n = refl
  free_unmarked (x ∷ xs) zero = refl
  free_unmarked (x ∷ xs) (suc n) = ap (λ l. x ∷ l) (free_unmarked xs n)

  -- If no item passes at an index without a mark, no item without a mark passes.
  pub none_free : (p : X → Bool) (xs : List X) (marks : List Bool) (d : X) → length xs ≤ length marks → ((k : ℕ) → k < length xs → (not (get_or marks k true) && p (get_or xs k d)) ≡ false) → list_any p (free xs marks) ≡ false
  unfolding free
  none_free p [] marks d long h = refl
  none_free p (x ∷ xs) [] d long h = absurd (omega arith)
  none_free p (x ∷ xs) (true ∷ marks) d long h = none_free p xs marks d (omega arith) (λ k lt. h (suc k) (omega arith))
  none_free p (x ∷ xs) (false ∷ marks) d long h =
      let here : p x ≡ false = h 0 (omega arith) in
      ap (λ b. b || list_any p (free xs marks)) here ∙ none_free p xs marks d (omega arith) (λ k lt. h (suc k) (omega arith))

  -- One more mark removes the item at its index from the sum over the items without a mark.
  pub sum_free : (f : X → ℕ) (xs : List X) (marks : List Bool) (j : ℕ) (d : X) → j < length xs → get_or marks j true ≡ false → sum_by f (free xs marks) ≡ f (get_or xs j d) + sum_by f (free xs (set marks j true))
  unfolding free
  sum_free f [] marks j d lt e = grind (arith, sum_by-cons)
  sum_free f (x ∷ xs) [] j d lt e = grind (arith, sum_by-cons)
  sum_free f (x ∷ xs) (true ∷ marks) zero d lt e = grind (arith, sum_by-cons)
  sum_free f (x ∷ xs) (false ∷ marks) zero d lt e = grind (arith, sum_by-cons)
  sum_free f (x ∷ xs) (true ∷ marks) (suc j) d lt e = grind (arith, sum_by-cons, (sum_free f xs marks j d (omega arith) e))
  sum_free f (x ∷ xs) (false ∷ marks) (suc j) d lt e = grind (arith, sum_by-cons, (sum_free f xs marks j d (omega arith) e))

  -- The same of the number of these items.
  pub length_free : (xs : List X) (marks : List Bool) (j : ℕ) → j < length xs → get_or marks j true ≡ false → length (free xs marks) ≡ 1 + length (free xs (set marks j true))
  unfolding free
  length_free [] marks j lt e = absurd (omega arith)
  length_free (x ∷ xs) [] j lt e = absurd (true≢false e)
  length_free (x ∷ xs) (true ∷ marks) zero lt e = absurd (true≢false e)
  length_free (x ∷ xs) (false ∷ marks) zero lt e = omega arith
  length_free (x ∷ xs) (true ∷ marks) (suc j) lt e = length_free xs marks j (omega arith) e
  length_free (x ∷ xs) (false ∷ marks) (suc j) lt e = let rest = length_free xs marks j (omega arith) e in omega (arith, rest)

module _ {X : Type 0} (same : X → X → Bool) (o : IsEquivalence same) where
  -- The items of `a`, except `rest`, are matched with the items of `b` that have marks.
  abbrev Matched : List X → List X → List X → List Bool → Type 0
  Matched a b rest marks = (length rest ≡ length (free b marks)) × ((z : X) → many same o a z + many same o (free b marks) z ≡ many same o b z + many same o rest z)

  -- The item of `a` at `i` is matched with the item of `b` at `j`.
  one_matched : (a b : List X) (i j : ℕ) (x : X) (marks : List Bool) → i < length a → x ≡ get_or a i x → j < length b → get_or marks j true ≡ false → same x (get_or b j x) ≡ true → Matched a b (drop i a) marks → Matched a b (drop (i + 1) a) (set marks j true)
  one_matched a b i j x marks within at j_within unmarked like m = grind (arith, length_free, length-drop, many, sum_by-drop_more, sum_free)

  all_matched : (a b : List X) (i : ℕ) (marks : List Bool) → length a ≤ i → Matched a b (drop i a) marks → all_agree same o a a b ≡ true
  all_matched a b i marks end m = grind (arith, drop_all, nil_from_length, agree_everywhere, many)

  -- If the item of `a` at `i` cannot be matched, the counts do not agree.
  unmatched : (a b : List X) (i : ℕ) (x : X) (marks : List Bool) → i < length a → x ≡ get_or a i x → list_any (same x) (free b marks) ≡ false → Matched a b (drop i a) marks → all_agree same o a a b ≡ false
  unmatched a b i x marks within at absent m = grind (arith, common_steps, false_from_ne_true, all_agree, list_any_at, agreed, many_absent, many, sum_by-drop_more)

  -- The start, before an item is matched.
  none_matched : (a b : List X) (marks : List Bool) → length a ≡ length b → free b marks ≡ b → Matched a b (drop 0 a) marks
  none_matched a b marks as_long unmarked = (as_long ∙ ap length (sym unmarked), λ z. let left = ap (λ l. many same o l z) unmarked in omega (arith, left))

  no_marks : (b : List X) (marks : List Bool) → marks ≡ replicate (length marks) false → free b marks ≡ b
  no_marks b marks none = ap (free b) none ∙ free_unmarked b (length marks)

  -- The first item of `a` is matched with one behind the first of `b`.
  first_matched : (a b : List X) (j : ℕ) (x : X) (marks : List Bool)
      → 0 < length a → length a ≡ length b → marks ≡ replicate (length marks) false → x ≡ get_or a 0 x → j < length (drop 1 b) → get_or (drop 1 marks) j true ≡ false → same x (get_or (drop 1 b) j x) ≡ true
      → Matched a b (drop 1 a) (set marks (1 + j) true)
  first_matched a b j x marks some as_long none at within unmarked like =
      one_matched a b 0 (1 + j) x marks some at (omega (arith, within, length-drop 1 b)) (sym (get_or_after_one marks j true) ∙ unmarked) (ap (same x) (sym (get_or_after_one b j x)) ∙ like) (none_matched a b marks as_long (no_marks b marks none))

  -- The first item of `a` cannot be matched: it differs from the first of `b`, and from the items behind it.
  first_unmatched : (a b : List X) (x : X) (marks : List Bool) → 0 < length a → length a ≡ length b → marks ≡ replicate (length marks) false → x ≡ get_or a 0 x → same x (get_or b 0 x) ≡ false → list_any (same x) (free (drop 1 b) (drop 1 marks)) ≡ false → all_agree same o a a b ≡ false
  first_unmatched a b x marks some as_long none at differs absent =
      let behind : free (drop 1 b) (drop 1 marks) ≡ drop 1 b = ap (λ l. free (drop 1 b) (drop 1 l)) none ∙ ap (free (drop 1 b)) (drop-replicate 1 (length marks) false) ∙ free_unmarked (drop 1 b) (length marks - 1) in
      let rest : list_any (same x) (drop 1 b) ≡ false = ap (list_any (same x)) (sym behind) ∙ absent in
      let all : list_any (same x) b ≡ false = at_drop_more (list_any (same x)) b 0 x (omega (arith, some, as_long)) ∙ ap (λ c. c || list_any (same x) (drop 1 b)) differs ∙ rest in
      unmatched a b 0 x marks some at (ap (list_any (same x)) (no_marks b marks none) ∙ all) (none_matched a b marks as_long (no_marks b marks none))

-- The same, where an item may differ from itself. Items are compared by `lumped`; the items that are matched are equal
-- to themselves.
module _ {X : Type 0} (same : X → X → Bool) (o : IsPartialEquivalence same) where
  abbrev pub MatchedPartial : List X → List X → List X → List Bool → Type 0
  MatchedPartial a b rest marks = Matched (lumped same o) (lumped_laws same o) a b rest marks × (all_reflexive same o a ≡ all_reflexive same o rest)

  one_reflexive : (a : List X) (i : ℕ) (x : X) → i < length a → x ≡ get_or a i x → same x x ≡ true → all_reflexive same o (drop i a) ≡ all_reflexive same o (drop (i + 1) a)
  one_reflexive a i x within at e = at_drop_more (all_reflexive same o) a i x within ∙ ap (λ z. same z z && all_reflexive same o (drop (i + 1) a)) (sym at) ∙ ap (λ c. c && all_reflexive same o (drop (i + 1) a)) e

  pub one_matched_partial : (a b : List X) (i j : ℕ) (x : X) (marks : List Bool) → i < length a → x ≡ get_or a i x → j < length b → get_or marks j true ≡ false → same x (get_or b j x) ≡ true → MatchedPartial a b (drop i a) marks → MatchedPartial a b (drop (i + 1) a) (set marks j true)
  one_matched_partial a b i j x marks within at j_within unmarked like m = (
    one_matched (lumped same o) (lumped_laws same o) a b i j x marks within at j_within unmarked (lumped_if_same same o x (get_or b j x) like) m.0,
    m.1 ∙ one_reflexive a i x within at (self_left same o x (get_or b j x) like),
  )

  pub all_matched_partial : (a b : List X) (i : ℕ) (marks : List Bool) → length a ≤ i → MatchedPartial a b (drop i a) marks → agree same o a a b ≡ true
  all_matched_partial a b i marks end m = from_lumps same o a a b (m.1 ∙ ap (all_reflexive same o) (drop_all i a end)) (all_matched (lumped same o) (lumped_laws same o) a b i marks end m.0)

  absent_lumped : (l : List X) (x : X) → same x x ≡ true → list_any (same x) l ≡ false → list_any (lumped same o x) l ≡ false
  absent_lumped l x e absent = (λ t. list_any (λ z. at_self same o x z e t) l) ∙ absent

  pub unmatched_partial : (a b : List X) (i : ℕ) (x : X) (marks : List Bool) → i < length a → x ≡ get_or a i x → list_any (same x) (free b marks) ≡ false → MatchedPartial a b (drop i a) marks → agree same o a a b ≡ false
  unmatched_partial a b i x marks within at absent m =
      elim (cases_Bool (same x x)) [
        | inl e ↦ disagree same o a b (unmatched (lumped same o) (lumped_laws same o) a b i x marks within at (absent_lumped (free b marks) x e absent) m.0)
        | inr e ↦ disagree_at same o a b i x within at e
      ]

  pub first_matched_partial : (a b : List X) (j : ℕ) (x : X) (marks : List Bool)
      → 0 < length a → length a ≡ length b → marks ≡ replicate (length marks) false → x ≡ get_or a 0 x → j < length (drop 1 b) → get_or (drop 1 marks) j true ≡ false → same x (get_or (drop 1 b) j x) ≡ true
      → MatchedPartial a b (drop 1 a) (set marks (1 + j) true)
  first_matched_partial a b j x marks some as_long none at within unmarked like = (
    first_matched (lumped same o) (lumped_laws same o) a b j x marks some as_long none at within unmarked (lumped_if_same same o x (get_or (drop 1 b) j x) like),
    one_reflexive a 0 x some at (self_left same o x (get_or (drop 1 b) j x) like),
  )

  pub first_unmatched_partial : (a b : List X) (x : X) (marks : List Bool) → 0 < length a → length a ≡ length b → marks ≡ replicate (length marks) false → x ≡ get_or a 0 x → same x (get_or b 0 x) ≡ false → list_any (same x) (free (drop 1 b) (drop 1 marks)) ≡ false → agree same o a a b ≡ false
  first_unmatched_partial a b x marks some as_long none at differs absent =
      elim (cases_Bool (same x x)) [
        | inl e ↦ disagree same o a b (first_unmatched (lumped same o) (lumped_laws same o) a b x marks some as_long none at (at_self same o x (get_or b 0 x) e ∙ differs) (absent_lumped (free (drop 1 b) (drop 1 marks)) x e absent))
        | inr e ↦ disagree_at same o a b 0 x some at e
      ]

  -- Lists of one item whose items differ are not matched.
  pub one_differs : (a b : List X) → length a ≡ 1 → length b ≡ 1 → ((d : X) → same (get_or a 0 d) (get_or b 0 d) ≡ false) → agree same o a a b ≡ false
  unfolding free
  one_differs (x ∷ []) (y ∷ []) one one_too differs =
      first_unmatched_partial (x ∷ []) (y ∷ []) x (false ∷ []) (omega arith) refl refl refl (differs x) refl
  one_differs [] b one one_too differs = absurd (omega (arith, one))
  one_differs (x ∷ w ∷ l) b one one_too differs = absurd (omega (arith, one))
  one_differs (x ∷ []) [] one one_too differs = absurd (omega (arith, one_too))
  one_differs (x ∷ []) (y ∷ z ∷ l) one one_too differs = absurd (omega (arith, one_too))

  -- Lists of two items whose first differ are matched only crosswise.
  two_agree : (x w y z : X) → same x y ≡ false → agree same o (x ∷ w ∷ []) (x ∷ w ∷ []) (y ∷ z ∷ []) ≡ (same x z && same w y)
  unfolding free
  two_agree x w y z differs = grind (arith, cases_Bool, first_matched_partial, all_matched_partial, one_matched_partial, and_from, unmatched_partial, first_unmatched_partial)

  pub two_agree_at : (a b : List X) (x w y z : X) → length a ≡ 2 → length b ≡ 2 → ((d : X) → same (get_or a 0 d) (get_or b 0 d) ≡ false) → x ≡ get_or a 0 x → w ≡ get_or a 1 w → y ≡ get_or b 0 y → z ≡ get_or b 1 z → agree same o a a b ≡ (same x z && same w y)
  two_agree_at (p ∷ q ∷ []) (r ∷ s ∷ []) x w y z two two_too differs at_x at_w at_y at_z =
      two_agree p q r s (differs p) ∙ sym (λ t. same (at_x t) (at_z t) && same (at_w t) (at_y t))
  two_agree_at [] b x w y z two two_too differs at_x at_w at_y at_z = absurd (omega (arith, two))
  two_agree_at (p ∷ []) b x w y z two two_too differs at_x at_w at_y at_z = absurd (omega (arith, two))
  two_agree_at (p ∷ q ∷ v ∷ l) b x w y z two two_too differs at_x at_w at_y at_z = absurd (omega (arith, two))
  two_agree_at (p ∷ q ∷ []) [] x w y z two two_too differs at_x at_w at_y at_z = absurd (omega (arith, two_too))
  two_agree_at (p ∷ q ∷ []) (r ∷ []) x w y z two two_too differs at_x at_w at_y at_z = absurd (omega (arith, two_too))
  two_agree_at (p ∷ q ∷ []) (r ∷ s ∷ v ∷ l) x w y z two two_too differs at_x at_w at_y at_z = absurd (omega (arith, two_too))

module _ {K V : Type 0} (key : K → K → Bool) (value : V → V → Bool) where
  -- None of the first `n` pairs without a mark is the same as `p`.
  abbrev pub NoneFree : List (K × V) → List Bool → K × V → ℕ → Type 0
  NoneFree pairs marks p n = (k : ℕ) → k < n → (not (get_or marks k true) && same_pair key value p (get_or pairs k p)) ≡ false

  other_key : (m : Bool) (p q : K × V) → key p.0 q.0 ≡ false → (not m && same_pair key value p q) ≡ false
  other_key true p q e = refl
  other_key false p q e = ap (λ b. b && value p.1 q.1) e

  pub other_value : (m : Bool) (p q : K × V) → value p.1 q.1 ≡ false → (not m && same_pair key value p q) ≡ false
  other_value true p q e = grind (arith)
  other_value false p q e = grind (arith)

  -- This holds before the first index of its key.
  pub none_free_before : (pairs : List (K × V)) (marks : List Bool) (p : K × V) (i : ℕ) → Some i ≡ index_of key pairs p.0 → NoneFree pairs marks p i
  none_free_before pairs marks p i e k lt = other_key (get_or marks k true) p (get_or pairs k p) ((position-Some (λ q. key p.0 q.0) pairs i p (sym (index_by_is (key p.0) pairs) ∙ sym e)).2 k lt)

  -- If the key of `p` is absent, no pair without a mark is the same as `p`.
  pub none_free_absent : (pairs : List (K × V)) (marks : List Bool) (p : K × V) → length pairs ≤ length marks → None ≡ index_of key pairs p.0 → list_any (same_pair key value p) (free pairs marks) ≡ false
  none_free_absent pairs marks p long e = none_free (same_pair key value p) pairs marks p long (λ k lt. other_key (get_or marks k true) p (get_or pairs k p) (fails_everywhere (λ q. key p.0 q.0) pairs p (sym (index_by_is (key p.0) pairs) ∙ sym e) k lt))

  -- The same for one index more.
  pub none_free_next : (pairs : List (K × V)) (marks : List Bool) (p : K × V) (n : ℕ) → NoneFree pairs marks p n → (not (get_or marks n true) && same_pair key value p (get_or pairs n p)) ≡ false → NoneFree pairs marks p (n + 1)
  none_free_next pairs marks p n before here k lt = grind (arith, cases_lt)
