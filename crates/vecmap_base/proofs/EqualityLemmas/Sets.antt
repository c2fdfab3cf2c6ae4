-- The laws of the equality of sets, and of one set within another, and the elements that are in both of two lists, or
-- in only one.
use Rattle.std.specs.{Cmp.IsEquivalence, List.{IsDistinct, list_any}}
use Rattle.std.specs.{Prelude.{◌≡◌, ◌<◌, ◌≤◌, Bool, true, false, ◌||◌, List, [], ◌∷◌, ◌++◌, length, IsTrue, ◌↔◌, ◌&&◌, not, filter, refl}, Set.is_member}
use Rattle.std.proofs.{Common.{sym, ◌∙◌, arith, true≢false, length-append, inl, inr, ap}, Math.Bool.and_comm}
use Rattle.std.proofs.lemmas.{Bool.{and_from, and_parts, cases_Bool, false_from_ne_true, or_cases, or_left, or_right}, List.Folds.list_any-append}
use Rattle.std.proofs.lemmas.Map.{Keys.IsDistinct-push, Made.{length-le_from_is_member, is_member-filter}, Steps.list_any_congr}
use Rattle.vecmap_base.{specs.{Equality.{has_same_items, is_within}, Items.{both, only}}, proofs.DistinctLemmas.{distinct_append, distinct_filter}}

module _ {T : Type 0} (eq : T → T → Bool) (o : IsEquivalence eq) where
  -- Each element of `a` is in `b`.
  abbrev pub Within : List T → List T → Type 0
  Within a b = (x : T) → is_member eq a x ≡ true → is_member eq b x ≡ true

  pub within_from_test : (a b : List T) → is_within eq a b ≡ true → Within a b
  within_from_test [] b e x h = grind (arith, and_parts, cases_Bool, list_any_congr)
  within_from_test (y ∷ ys) b e x h = grind (arith, and_parts, cases_Bool, list_any_congr, (within_from_test ys b))

  pub test_from_within : (a b : List T) → Within a b → is_within eq a b ≡ true
  test_from_within [] b h = grind (arith, and_from, or_left, or_right)
  test_from_within (y ∷ ys) b h = grind (arith, and_from, or_left, or_right, (test_from_within ys b))

  -- Two lists with the same elements, in any order and number, are equal as sets.
  pub same_items : (a b : List T) → ((x : T) → is_member eq a x ≡ is_member eq b x) → has_same_items eq a b ≡ true
  same_items a b same = and_from _ _ (test_from_within a b (λ x e. sym (same x) ∙ e)) (test_from_within b a (λ x e. same x ∙ e))

  pub set_equality_laws : IsEquivalence (has_same_items eq)
  set_equality_laws = grind (arith, and_from, test_from_within, and_parts, within_from_test)

  -- A distinct list within another is no longer than that list.
  pub length_within : (a b : List T) → IsDistinct eq a → is_within eq a b ≡ true → length a ≤ length b
  length_within a b d e = length-le_from_is_member o a b d (within_from_test a b e)

  -- A longer distinct list is not within a shorter one.
  pub longer_not_within : (a b : List T) → IsDistinct eq a → length b < length a → is_within eq a b ≡ false
  longer_not_within a b d l = false_from_ne_true (is_within eq a b) (λ e. absurd (let m = length_within a b d e in omega (arith, m)))

  -- The pigeonhole principle: if a distinct list is within a list of the same length, that list is within it.
  pub within_back : (a b : List T) → IsDistinct eq a → length a ≡ length b → Within a b → Within b a
  within_back a b d n h x i =
      elim (cases_Bool (is_member eq a x)) [
        | inl j ↦ j
        | inr j ↦
            let one_more : Within (a ++ x ∷ []) b = λ q m.
            elim (or_cases (is_member eq a q) (eq q x || false) (sym (list_any-append (eq q) a (x ∷ [])) ∙ m)) [
              | inl e ↦ h q e
              | inr e ↦
                  elim (or_cases (eq q x) false e) [
                    | inl f ↦ list_any_congr o q x b f ∙ i
                    | inr f ↦ absurd (true≢false (sym f))
                  ]
            ] in
            let long = length-le_from_is_member o (a ++ x ∷ []) b (IsDistinct-push o a x d j) one_more in
            absurd (omega (arith, long, length-append a (x ∷ [])))
      ]

  pub set_lengths_differ : (a b : List T) → IsDistinct eq a → IsDistinct eq b → (length a ≡ length b → ⊥) → has_same_items eq a b ≡ false
  set_lengths_differ a b d e n = grind (arith, false_from_ne_true, and_parts, length_within)

  -- For distinct lists of one length, it is enough to look up the elements of one list.
  pub set_equal_by_half : (a b : List T) → IsDistinct eq a → length a ≡ length b → has_same_items eq a b ≡ is_within eq a b
  set_equal_by_half a b d n = grind (arith, and_parts, and_from, test_from_within, within_back, within_from_test)

-- No element passes a test exactly if the list of the elements that pass is empty.
none_passes : {T : Type 0} (test : T → Bool) (xs : List T) → (list_any test xs ≡ false) ↔ (filter test xs ≡ [])
none_passes test [] = grind (arith)
none_passes test (x ∷ xs) = grind (arith, (none_passes test xs))

module _ {T : Type 0} (eq : T → T → Bool) (o : IsEquivalence eq) where
  pub is_member_both : (a b : List T) (x : T) → is_member eq (both eq a b) x ≡ (is_member eq a x && is_member eq b x)
  is_member_both a b x = is_member-filter o (λ y. is_member eq b y) x (λ y e. list_any_congr o x y b e) a

  pub is_member_only : (a b : List T) (x : T) → is_member eq (only eq a b) x ≡ (is_member eq a x && not (is_member eq b x))
  is_member_only a b x = is_member-filter o (λ y. not (is_member eq b y)) x (λ y e. ap not (list_any_congr o x y b e)) a

  -- A list has no elements if nothing is in it.
  nothing_in : (a : List T) → ((x : T) → is_member eq a x ≡ false) → a ≡ []
  nothing_in [] h = refl
  nothing_in (x ∷ xs) h = absurd (true≢false (sym (or_left (eq x x) (is_member eq xs x) (o.refl x)) ∙ h x))

  -- If the lists have nothing in common, what is in `a` is not in `b`.
  pub apart_if_none_shared : (a b : List T) → both eq a b ≡ [] → (x : T) → is_member eq a x ≡ true → is_member eq b x ≡ false
  apart_if_none_shared a b e x h = ap (λ c. c && is_member eq b x) (sym h) ∙ sym (is_member_both a b x) ∙ ap (λ l. is_member eq l x) e

  pub none_shared_if_apart : (a b : List T) → ((x : T) → is_member eq a x ≡ true → is_member eq b x ≡ false) → both eq a b ≡ []
  none_shared_if_apart a b apart =
      nothing_in (both eq a b) (λ x. is_member_both a b x ∙ elim (cases_Bool (is_member eq a x)) [
        | inl h ↦ (λ i. h i && apart x h i)
        | inr n ↦ ap (λ c. c && is_member eq b x) n
      ])

  -- If no element of `a` is in `b`, no element of `b` is in `a`.
  pub both_empty_turned : (a b : List T) → both eq a b ≡ [] → both eq b a ≡ []
  both_empty_turned a b e =
      nothing_in (both eq b a) (λ x. is_member_both b a x ∙ and_comm (is_member eq b x) (is_member eq a x) ∙ sym (is_member_both a b x) ∙ ap (λ l. is_member eq l x) e)

  -- A loop over `a` finds whether `a` shares no element with `b`.
  pub apart_by_walk : (a b : List T) (found : Bool) → found ≡ list_any (is_member eq b) a → IsTrue (not found) ↔ (both eq a b ≡ [])
  apart_by_walk a b true e = (λ t. cc, λ f. cc ((none_passes (is_member eq b) a).1 f))
  apart_by_walk a b false e = (λ t. (none_passes (is_member eq b) a).0 (sym e), λ f. refl)

  -- It also finds whether `b` shares no element with `a`.
  pub apart_by_walk_turned : (a b : List T) (found : Bool) → found ≡ list_any (is_member eq b) a → IsTrue (not found) ↔ (both eq b a ≡ [])
  apart_by_walk_turned a b found e = grind (arith, apart_by_walk, both_empty_turned)

  -- The elements in both lists are distinct if the elements of `a` are.
  pub distinct_both : (a b : List T) → IsDistinct eq a → IsDistinct eq (both eq a b)
  distinct_both a b = distinct_filter eq (λ x. is_member eq b x) a

  pub distinct_only : (a b : List T) → IsDistinct eq a → IsDistinct eq (only eq a b)
  distinct_only a b = distinct_filter eq (λ x. not (is_member eq b x)) a

  not_in : (c d : Bool) → (c && not d) ≡ true → d ≡ false
  not_in true true e = absurd (true≢false (sym e))
  not_in true false e = refl
  not_in false d e = absurd (true≢false (sym e))

  pub distinct_union : (a b : List T) → IsDistinct eq a → IsDistinct eq b → IsDistinct eq (a ++ only eq b a)
  distinct_union a b d e = distinct_append eq o a (only eq b a) d (distinct_only b a e) (λ x m. not_in (is_member eq b x) (is_member eq a x) (sym (is_member_only b a x) ∙ m))

  pub distinct_symmetric_difference : (a b : List T) → IsDistinct eq a → IsDistinct eq b → IsDistinct eq (only eq a b ++ only eq b a)
  distinct_symmetric_difference a b d e = grind (arith, distinct_append, distinct_only, is_member_only, not_in)
