-- What calls leave in a set is distinct. Of clones the idea is: each is equal to its original, and the originals are
-- distinct.
use Rattle.std.proofs.Common.{arith, ◌≡◌, ◌⊎◌, ℕ, Bool, Contains, IsTrue, List, [], ◌∷◌, ◌++◌, drop, false, inl, inr, length, refl, reverse, subst, sym, take, true}
use Rattle.std.specs.{Cmp.IsEquivalence, List.{IsDistinct, list_any}, Map.IsKeyTest, Set.is_member}
use Rattle.std.proofs.lemmas.List.Elements.{Contains-append_left, Contains-append_right, Contains-push}
use Rattle.std.proofs.lemmas.{Bool.cases_Bool, List.Sorted.IsPermutation-reverse, Map.Keys.IsDistinct-push}
use Rattle.vecmap_base.specs.{Clones.AreClones, Equality.is_within, Items.both}
use Rattle.vecmap_base.proofs.DistinctLemmas.{distinct_none, distinct_adds, distinct_clones, distinct_tail, distinct_drop, distinct_front, distinct_take}
use Rattle.vecmap_base.proofs.EqualityLemmas.Sets.{apart_if_none_shared, set_equal_by_half, set_lengths_differ, within_back, within_from_test}
use Rattle.vecmap_base.proofs.PairsLemmas.LookupsAfterChanges.{compares_with}
use Rattle.vecmap_set.specs.SetBulk.{HaveSameItems}

module _ {T : Type 0} (eq : T → T → Bool) where
  -- Clones of some elements of l, with the fact that their originals are in l.
  clones_within : (C : T → T → Type 0) (l xs ys : List T) → ((x : T) → Contains xs x → Contains l x) → AreClones C xs ys → AreClones (λ x y. Contains l x × C x y) xs ys
  clones_within C l [] [] h k = tt
  clones_within C l [] (y ∷ ys) h k = absurd k
  clones_within C l (x ∷ xs) [] h k = absurd k
  clones_within C l (x ∷ xs) (y ∷ ys) h k =
      ((h x (Contains-append_left (x ∷ []) xs x (Contains-push [] x)), k.0), clones_within C l xs ys (λ z c. h z (Contains-append_right (x ∷ []) xs z c)) k.1)

  -- Clones of the elements of a distinct list are distinct, if each clone is equal to its original.
  pub distinct_clones_of : (o : IsEquivalence eq) (C : T → T → Type 0) (xs ys : List T) → ((x y : T) → Contains xs x → C x y → IsTrue (eq x y)) → AreClones C xs ys → IsDistinct eq xs → IsDistinct eq ys
  distinct_clones_of o C xs ys same k d =
      distinct_clones eq o (λ x y. Contains xs x × C x y) (λ x y w. same x y w.0 w.1) xs ys (clones_within C xs xs ys (λ x c. c) k) d

  -- The elements from an index on are reversed.
  pub distinct_reversed : (o : IsEquivalence eq) (xs : List T) (n : ℕ) → IsDistinct eq xs → IsDistinct eq (take n xs ++ reverse (drop n xs))
  distinct_reversed o xs n = distinct_tail eq o n xs (reverse (drop n xs)) (IsPermutation-reverse (drop n xs))

  -- The last element is removed. The premise is repeated in the result, for `grind`, which finds the lemma by it.
  pub distinct_first : (xs ys : List T) → IsDistinct eq (xs ++ ys) → IsDistinct eq (xs ++ ys) × IsDistinct eq xs
  distinct_first xs ys d = (d, distinct_front eq xs ys d)

module _ {T : Type 0} (eq : T → T → Bool) (o : IsEquivalence eq) where
  -- Of two distinct lists of one length, one within the other, both have the same elements.
  members_of_equal : (a b : List T) → IsDistinct eq a → length a ≡ length b → is_within eq a b ≡ true → (q : T) → is_member eq a q ≡ is_member eq b q
  members_of_equal a b d n e q = grind (arith, within_from_test, within_back)

  -- A query matches an element of a list, or none.
  match_or_none : (test : T → Bool) (l : List T) → ((x : T) × (test x ≡ true)) ⊎ (list_any test l ≡ false)
  match_or_none test [] = grind (arith, cases_Bool)
  match_or_none test (x ∷ xs) = grind (arith, cases_Bool, (match_or_none test xs))

  -- What is said of elements is said of queries: a query that matches something matches the equals of one element.
  pub by_queries : (R : Bool → Bool → Bool → Type 0) → R false false false → (a b c : List T) → ((q : T) → R (is_member eq a q) (is_member eq b q) (is_member eq c q)) → (test : T → Bool) → IsKeyTest eq test → R (list_any test a) (list_any test b) (list_any test c)
  by_queries R nothing a b c members test respects =
      let by : (found : (x : T) × (test x ≡ true)) → R (list_any test a) (list_any test b) (list_any test c) = λ found.
      subst (λ f. R (list_any f a) (list_any f b) (list_any f c)) (sym (compares_with eq o test respects found.0 found.1)) (members found.0) in
      elim (match_or_none test a) [
        | inl found ↦ by found
        | inr first ↦
            elim (match_or_none test b) [
              | inl found ↦ by found
              | inr second ↦
                  elim (match_or_none test c) [
                    | inl found ↦ by found
                    | inr third ↦ rw (first, second, third) nothing
                  ]
            ]
      ]

  queries_of_equal : (a b : List T) → IsDistinct eq a → length a ≡ length b → is_within eq a b ≡ true → (test : T → Bool) → IsKeyTest eq test → list_any test a ≡ list_any test b
  queries_of_equal a b d n e = by_queries (λ x y z. x ≡ y) refl a b a (members_of_equal a b d n e)

  pub have_same_items : (a b : List T) → IsDistinct eq a → length a ≡ length b → is_within eq a b ≡ true → HaveSameItems eq a b
  have_same_items a b d n e = record { members = members_of_equal a b d n e; queries = queries_of_equal a b d n e; len = n }

  pub queries_within : (a b : List T) → is_within eq a b ≡ true → (test : T → Bool) → IsKeyTest eq test → list_any test a ≡ true → list_any test b ≡ true
  queries_within a b e = by_queries (λ x y z. x ≡ true → y ≡ true) (λ h. h) a b a (within_from_test eq o a b e)

  pub queries_apart : (a b : List T) → both eq a b ≡ [] → (test : T → Bool) → IsKeyTest eq test → list_any test a ≡ true → list_any test b ≡ false
  queries_apart a b e = by_queries (λ x y z. x ≡ true → y ≡ false) (λ h. refl) a b a (apart_if_none_shared eq o a b e)

-- The lemmas for the goals of calls that change a set.
pub ruleset distinct_changes = (distinct_adds, distinct_drop, distinct_first, distinct_none, IsDistinct-push, distinct_take, distinct_reversed)

-- The lemmas for the goals of `==`.
pub ruleset set_equality = (set_equal_by_half, set_lengths_differ)
