-- Which elements are present: in the rest of a list, after an addition, after a removal, and among those that a closure
-- has kept.
use Rattle.std.specs.{Cmp.IsEquivalence, List.{list_any, IsDistinct, Sorted.IsPermutation}, Map.{AreApart, IsKeyTest}, Set.{is_member, KeepsOthers}}
use Rattle.std.proofs.Common.{◌≡◌, ℕ, Bool, List, length, ap, ◌∙◌, ◌-◌, drop, is_some, take, ◌||◌, ◌++◌, true, false, [], ◌∷◌, None, arith, inl, inr, position, refl, subst, sym, ◌&&◌}
use Rattle.std.proofs.{Math.Bool.{or-false, or-true}, lemmas.{Bool.cases_Bool, Grind.common_steps, List.{take_rest, Folds.list_any-append}}}
use Rattle.std.proofs.lemmas.{List.Sorted.list_any-IsPermutation, Map.Keys.IsDistinct-head}
use Rattle.vecmap_base.specs.{Items.{item_index, add, adds}, Kept.{Kept, ReturnsAt}, Lookups.UpdatesMember}
use Rattle.vecmap_base.proofs.{DistinctLemmas.{none_equal, distinct_rearranged}, IndexLemmas.{is_some_position, list_any_position}}
use Rattle.vecmap_base.proofs.{ItemsLemmas.Additions.add_absent, PairsLemmas.LookupsAfterChanges.compares_with, TakenLemmas.TakesFirst}

module _ {T : Type 0} (eq : T → T → Bool) where
  -- The rest of the list from `i` on has an index of `x` exactly if it has an equal element.
  pub is_some_item_index_rest : (s : List T) (i : ℕ) (x : T) → is_some (item_index eq (take (length s - i) (drop i s)) x) ≡ list_any (eq x) (drop i s)
  is_some_item_index_rest s i x = ap (λ r. is_some (item_index eq r x)) (take_rest s i) ∙ is_some_position (eq x) (drop i s)

module _ {T : Type 0} (eq : T → T → Bool) (o : IsEquivalence eq) where
  module _ (test : T → Bool) (respects : IsKeyTest eq test) where
    -- The record from two of its facts: whether anything matches, and that other queries match the same.
    pub members_from : (s r : List T) (b : Bool) → list_any test r ≡ b → ((other : T → Bool) → IsKeyTest eq other → AreApart test other → list_any other r ≡ list_any other s) → UpdatesMember eq test s r b
    unfolding KeepsOthers
    members_from s r b here apart = grind (arith, cases_Bool, compares_with)

    -- The removal of an element that passes, wherever the others go.
    members_taken : (s r : List T) (x : T) → IsDistinct eq s → test x ≡ true → IsPermutation s (x ∷ r) → UpdatesMember eq test s r false
    members_taken s r x d h moved =
        members_from s r false
        (ap (λ f. list_any f r) (compares_with eq o test respects x h) ∙ none_equal eq x r (IsDistinct-head eq x r (distinct_rearranged eq o s (x ∷ r) moved d)))
        (λ other tells apart. sym (ap (λ b. b || list_any other r) (apart x h)) ∙ sym (list_any-IsPermutation other s (x ∷ r) moved))

    -- If nothing passes, nothing is removed.
    members_stay : (s : List T) → position test s ≡ None → UpdatesMember eq test s s false
    members_stay s e = members_from s s false (list_any_position test s ∙ ap is_some e) (λ other tells apart. refl)

    -- After the removal of its match, a query matches nothing, and each other element is present exactly if it was.
    pub members_of_first : (s r : List T) → TakesFirst s r test → IsDistinct eq s → UpdatesMember eq test s r false
    members_of_first s r (inl n) d = subst (λ l. UpdatesMember eq test s l false) (sym n.1) (members_stay s n.0)
    members_of_first s r (inr t) d = members_taken s r t.1 d t.4 t.2.1

    -- If nothing changes, a query that matches an element still does.
    pub members_matched : (s : List T) → list_any test s ≡ true → UpdatesMember eq test s s true
    members_matched s h = members_from s s true h (λ other tells apart. refl)

    -- If a query matches an element and nothing in the list, the element is not in the list.
    pub absent_by : (s : List T) (x : T) → position test s ≡ None → test x ≡ true → is_member eq s x ≡ false
    absent_by s x miss hit = ap (λ f. list_any f s) (sym (compares_with eq o test respects x hit)) ∙ list_any_position test s ∙ ap is_some miss

  -- After the removal of an element, nothing is equal to it, and each other element is present exactly if it was.
  pub members_removed : (s r : List T) (x : T) → IsPermutation s (x ∷ r) → IsDistinct eq s → UpdatesMember eq (eq x) s r false
  members_removed s r x moved d = members_taken (eq x) (o.congr x) s r x d (o.refl x) moved

  added_here : (s : List T) (x : T) → list_any (eq x) (add eq s x) ≡ true
  added_here s x = grind (arith, cases_Bool, list_any-append, or-true, (o.refl x))

  added_apart : (s : List T) (x : T) (other : T → Bool) → AreApart (eq x) other → list_any other (add eq s x) ≡ list_any other s
  added_apart s x other apart = grind (arith, cases_Bool, list_any-append, or-false, (apart x (o.refl x)))

  -- After an addition, the element is present, and each other element exactly if it was.
  pub members_of_add : (s r : List T) (x : T) → r ≡ add eq s x → UpdatesMember eq (eq x) s r true
  members_of_add s r x e = subst (λ l. UpdatesMember eq (eq x) s l true) (sym e) (members_from (eq x) (o.congr x) s (add eq s x) true (added_here s x) (λ other tells apart. added_apart s x other apart))

  -- The same of an element that was not present and is appended.
  pub members_appended : (s r : List T) (x : T) → r ≡ s ++ x ∷ [] → is_member eq s x ≡ false → UpdatesMember eq (eq x) s r true
  members_appended s r x e n = members_of_add s r x (e ∙ sym (add_absent eq s x n))

  -- And for a query that matches the appended element alone.
  pub members_appended_by : (test : T → Bool) → IsKeyTest eq test → (s r : List T) (x : T) → r ≡ s ++ x ∷ [] → position test s ≡ None → test x ≡ true → UpdatesMember eq test s r true
  members_appended_by test respects s r x e miss hit =
      subst (λ f. UpdatesMember eq f s r true) (sym (compares_with eq o test respects x hit)) (members_appended s r x e (absent_by test respects s x miss hit))

  -- After many additions, an element is present if it was, or if one of the added elements is equal to it.
  pub is_member_adds : (s xs : List T) (q : T) → is_member eq (adds eq s xs) q ≡ (is_member eq s q || is_member eq xs q)
  is_member_adds s [] q = grind (arith, common_steps, or-false, members_of_add)
  is_member_adds s (x ∷ xs) q = grind (arith, common_steps, or-false, members_of_add, (is_member_adds (add eq s x) xs q))

module _ {F T : Type 0} (R : F → T → Bool → T → F → Type 0) (same : (f : F) (x : T) (b : Bool) (y : T) (g : F) → R f x b y g → y ≡ x) (query : T → Bool) (kept : Bool) where
  -- A query finds what it found if the closure keeps the elements that it matches.
  pub any_filtered : (f g : F) (l m : List T) → ReturnsAt R f query kept → Kept R f l m g → list_any query m ≡ (list_any query l && kept)
  any_filtered f g [] m told k = grind (arith)
  any_filtered f g (x ∷ xs) m told k = grind (arith, (any_filtered k.2 g xs k.3))
