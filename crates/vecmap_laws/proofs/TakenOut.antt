-- What is found after the item at an index has been taken out of a list, whatever the order of the others. A removal
-- that shifts the later items and one that moves the last item are both of this kind.
use Rattle.std.proofs.Common.{◌≡◌, ◌-◌, ℕ, Bool, true, false, ◌||◌, ◌&&◌, IsTrue, List, ◌∷◌, None, Option, Some, ap, arith, if◌then◌else◌, is_some, length, not, position, refl, remove, slice_get, subst, sym, ◌∙◌}
use Rattle.std.proofs.lemmas.{Map.Steps.list_any_congr, Option.get_or_from_slice_get, Option.slice_get_within}
use Rattle.std.proofs.lemmas.List.Sorted.{IsPermutation-remove, IsPermutation-swap_remove, length_permutation, list_any-IsPermutation}
use Rattle.std.specs.{Cmp.IsEquivalence, List.IsDistinct, List.list_any, List.swap_remove, List.Sorted.IsPermutation, Map.IsKeyTest, Option.option_map_or, Set.is_member}
use Rattle.vecmap_base.specs.Items.{swap_without}
use Rattle.vecmap_base.proofs.{DistinctLemmas.distinct_rearranged, IndexLemmas.list_any_position, PairsLemmas.LookupsAfterChanges.compares_with}
use Rattle.vecmap_laws.proofs.LookupLemmas.{head_not_in_rest}
use Rattle.vecmap_set.proofs.SetIndexLemmas.{found_item_at}

-- The item at the first index that passes.
pub passing_at : {X : Type 0} (p : X → Bool) (xs : List X) (i : ℕ) → position p xs ≡ Some i → (x : X) × (slice_get xs i ≡ Some x) × IsTrue (p x)
passing_at p xs i e = found_item_at p xs (Some i) (sym e)

module _ {X : Type 0} where
  pub remove_leaves : (xs : List X) (i : ℕ) (x : X) → slice_get xs i ≡ Some x → IsPermutation xs (x ∷ remove xs i)
  remove_leaves xs i x at = IsPermutation-remove xs i x (slice_get_within xs i x at) (sym (get_or_from_slice_get xs i x x at))

  pub swap_leaves : (xs : List X) (i : ℕ) (x : X) → slice_get xs i ≡ Some x → IsPermutation xs (x ∷ swap_without xs i)
  swap_leaves xs i x at = subst (λ found. IsPermutation xs (x ∷ option_map_or (λ y. swap_remove xs i y) found xs)) (sym at) (IsPermutation-swap_remove xs i x (slice_get_within xs i x at) (sym (get_or_from_slice_get xs i x x at)))

module _ {T : Type 0} (eq : T → T → Bool) (o : IsEquivalence eq) where
  -- One of distinct elements is taken out: all others stay.
  pub is_member_taken : (s rest : List T) (x : T) → IsPermutation s (x ∷ rest) → IsDistinct eq s → (y : T) → is_member eq rest y ≡ (is_member eq s y && not (eq x y))
  is_member_taken s rest x moved d y = by (eq x y) refl (list_any-IsPermutation (eq y) s (x ∷ rest) moved)
    where
      last : (b : Bool) → b ≡ (b && true)
      last true = refl
      last false = refl

      none : (b : Bool) → false ≡ (b && false)
      none true = refl
      none false = refl

      by : (b : Bool) → eq x y ≡ b → list_any (eq y) s ≡ (eq y x || list_any (eq y) rest) → is_member eq rest y ≡ (is_member eq s y && not b)
      by true e all = sym (list_any_congr o x y rest e) ∙ head_not_in_rest eq x rest (distinct_rearranged eq o s (x ∷ rest) moved d) ∙ none (is_member eq s y)
      by false e all = sym (ap (λ b. b || list_any (eq y) rest) (o.symm y x ∙ e)) ∙ sym all ∙ last (is_member eq s y)

-- A removal by index, which leaves all other items.
module _ {X : Type 0} (takes : List X → ℕ → List X) (leaves : (xs : List X) (i : ℕ) (x : X) → slice_get xs i ≡ Some x → IsPermutation xs (x ∷ takes xs i)) where
  pub length_by_index : (xs : List X) (i : ℕ) (x : X) → slice_get xs i ≡ Some x → length (takes xs i) ≡ length xs - 1
  length_by_index xs i x at = let e : length (x ∷ takes xs i) ≡ length xs = length_permutation xs (x ∷ takes xs i) (leaves xs i x at) in omega (arith, e)

  pub length_by_test : (p : X → Bool) (xs : List X) → length (option_map_or (takes xs) (position p xs) xs) ≡ (if is_some (position p xs) then length xs - 1 else length xs)
  length_by_test p xs = grind (arith, passing_at, length_by_index)

  module _ (eq : X → X → Bool) (o : IsEquivalence eq) where
    pub is_member_by_index : (s : List X) → IsDistinct eq s → (i : ℕ) (x : X) → slice_get s i ≡ Some x → (y : X) → is_member eq (takes s i) y ≡ (is_member eq s y && not (eq x y))
    is_member_by_index s d i x at = is_member_taken eq o s (takes s i) x (leaves s i x at) d

    pub is_member_by_test : (test : X → Bool) → IsKeyTest eq test → (s : List X) → IsDistinct eq s → (y : X) → is_member eq (option_map_or (takes s) (position test s) s) y ≡ (is_member eq s y && not (test y))
    is_member_by_test test respects s d y = by (position test s) refl
      where
        none : (b c : Bool) → (c ≡ true → b ≡ false) → b ≡ (b && not c)
        none true true h = h refl
        none true false h = refl
        none false c h = refl

        absent : position test s ≡ None → test y ≡ true → list_any (eq y) s ≡ false
        absent e h = ap (λ f. list_any f s) (sym (compares_with eq o test respects y h)) ∙ list_any_position test s ∙ ap is_some e

        by : (found : Option ℕ) → position test s ≡ found → is_member eq (option_map_or (takes s) found s) y ≡ (is_member eq s y && not (test y))
        by None e = none (is_member eq s y) (test y) (absent e)
        by (Some i) e = let at = passing_at test s i e in is_member_by_index s d i at.0 at.1 y ∙ ap (λ b. is_member eq s y && not b) (sym (respects at.0 y at.2))
