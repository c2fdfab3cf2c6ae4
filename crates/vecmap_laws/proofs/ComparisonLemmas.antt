-- The number of comparisons that a removal of duplicates makes if no two elements are equal.
use Rattle.std.specs.{Cmp.IsEquivalence, List.IsDistinct, Map.keys_of}
use Rattle.std.proofs.Common.{◌≡◌, suc, ◌+◌, Bool, List, [], ◌∷◌, ◌++◌, length, sym, ap, ◌∙◌, subst, arith}
use Rattle.std.proofs.lemmas.{List.{append_assoc, length_push}, Map.Entries.length-keys_of}
use Rattle.vecmap_base.specs.{Comparisons.{adds_cost, comparisons, cost}, Pairs.HasDistinctKeys}
use Rattle.vecmap_base.proofs.{DistinctLemmas.none_before, DuplicatesLemmas.ComparisonCounts.{search_cost_absent, cost_more}, ItemsLemmas.Additions.add_absent}

module _ {T : Type 0} (eq : T → T → Bool) (o : IsEquivalence eq) where
  adds_cost_distinct : (s xs : List T) → IsDistinct eq (s ++ xs) → adds_cost eq s xs + cost (length s) ≡ cost (length s + length xs)
  adds_cost_distinct s [] d =
      let e : length s + 0 ≡ length s = omega arith in
      rw e (omega arith)
  adds_cost_distinct s (x ∷ xs) d =
      let n = length s in
      let m = length xs in
      let moved : (s ++ x ∷ []) ++ xs ≡ s ++ x ∷ xs = append_assoc s (x ∷ []) xs in
      let absent = none_before eq o s x xs d in
      let one_on : n + suc m ≡ n + m + 1 = omega arith in
      let two_on : n + 1 + m ≡ n + m + 1 = omega arith in
      let more : adds_cost eq (s ++ x ∷ []) xs + cost (n + 1) ≡ cost (n + m + 1) =
      subst (λ k. adds_cost eq (s ++ x ∷ []) xs + cost (n + 1) ≡ cost k) two_on
      (subst (λ k. adds_cost eq (s ++ x ∷ []) xs + cost k ≡ cost (k + m)) (length_push s x) (adds_cost_distinct (s ++ x ∷ []) xs (subst (IsDistinct eq) (sym moved) d))) in
      rw (one_on, add_absent eq s x absent) (omega (arith, more, search_cost_absent eq s x absent, cost_more n))

  pub comparisons_distinct : (xs : List T) → IsDistinct eq xs → comparisons eq xs ≡ cost (length xs)
  comparisons_distinct xs d = grind (arith, adds_cost_distinct)

-- The same of the keys of pairs.
module _ {K V : Type 0} (eq : K → K → Bool) where
  pub key_comparisons_distinct : IsEquivalence eq → (l : List (K × V)) → HasDistinctKeys eq l → comparisons eq (keys_of l) ≡ cost (length l)
  key_comparisons_distinct o l d = comparisons_distinct eq o (keys_of l) d ∙ ap cost (length-keys_of l)
