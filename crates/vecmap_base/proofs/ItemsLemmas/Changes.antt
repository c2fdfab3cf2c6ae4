-- Which elements are present after a replacement, after the removal of the last element, in the front of a list and in
-- clones, as contracts say it.
use Rattle.std.specs.{Cmp.IsEquivalence, List.IsDistinct, List.list_any, Map.AreApart, Set.is_member, Prelude.{IfSome, nat_lt}}
use Rattle.std.specs.Option.{option_to_list}
use Rattle.std.proofs.Common.{◌≡◌, ◌∙◌, ◌&&◌, ◌||◌, ℕ, suc, zero, Bool, true, false, Contains, IsTrue, List, [], ◌∷◌, ◌++◌, None, Option, Some, ap, arith, drop, option_map, position, refl, subst, sym, take, unwrap_or}
use Rattle.std.proofs.{lemmas.Bool.Decides.nat_tests, lemmas.List.take-append-drop}
use Rattle.std.proofs.lemmas.List.Folds.{list_any-append}
use Rattle.vecmap_base.specs.{Clones.AreClones, Items.put_item, Lookups.UpdatesMember}
use Rattle.vecmap_base.proofs.{IndexLemmas.{list_any_position, position_cons}, ItemsLemmas.{Additions.put_item_cons, Members.{members_from, members_removed}}}
use Rattle.vecmap_base.proofs.TakenLemmas.{last_taken}

module _ {T : Type 0} (test : T → Bool) where
  -- Among the first `n` elements, one passes exactly if the first that passes is among them.
  pub list_any_take : (n : ℕ) (s : List T) → list_any test (take n s) ≡ (list_any test s && nat_lt (unwrap_or (position test s) 0) n)
  list_any_take zero s = grind (arith, nat_tests, list_any_position, position_cons, option_map)
  list_any_take (suc n) [] = grind (arith, nat_tests, list_any_position, position_cons, option_map)
  list_any_take (suc n) (x ∷ xs) = grind (arith, nat_tests, list_any_position, position_cons, option_map, (list_any_take n xs))

  -- The same of a list that is known to be the front.
  pub matches_of_front : (n : ℕ) (s r : List T) → r ≡ take n s → list_any test r ≡ (list_any test s && nat_lt (unwrap_or (position test s) 0) n)
  matches_of_front n s r e = ap (list_any test) e ∙ list_any_take n s

  -- An element of a list that passes is in the front or behind it.
  pub matches_of_parts : (n : ℕ) (s front part : List T) → front ≡ take n s → part ≡ drop n s → list_any test s ≡ (list_any test front || list_any test part)
  matches_of_parts n s front part e f =
      sym (ap (list_any test) (take-append-drop n s)) ∙ list_any-append test (take n s) (drop n s) ∙ (λ i. list_any test (sym e i) || list_any test (sym f i))

module _ {T : Type 0} (eq : T → T → Bool) (o : IsEquivalence eq) where
  -- After the removal of the last element, nothing is equal to it, and each other element is present exactly if it was.
  pub members_popped : (s r : List T) (last : Option T) → s ≡ r ++ option_to_list last → IsDistinct eq s → IfSome last (λ x. UpdatesMember eq (eq x) s r false)
  members_popped s r None e d = tt
  members_popped s r (Some x) e d =
      members_removed eq o s r x (last_taken s r x e) d

  stored : (s : List T) (x : T) → list_any (eq x) (put_item eq s x) ≡ true
  stored [] x = grind (arith, put_item_cons)
  stored (z ∷ zs) x = grind (arith, put_item_cons, (stored zs x))

  others_stay : (x : T) (other : T → Bool) → AreApart (eq x) other → (s : List T) → list_any other (put_item eq s x) ≡ list_any other s
  others_stay x other apart [] = grind (arith, put_item_cons)
  others_stay x other apart (z ∷ zs) = grind (arith, put_item_cons, (others_stay x other apart zs))

  -- After an addition that stores the new element, it is present, and each other element exactly if it was.
  pub members_of_put : (s r : List T) (x : T) → r ≡ put_item eq s x → UpdatesMember eq (eq x) s r true
  members_of_put s r x e =
      subst (λ l. UpdatesMember eq (eq x) s l true) (sym e)
      (members_from eq o (eq x) (o.congr x) s (put_item eq s x) true (stored s x) (λ other tells apart. others_stay x other apart s))

  -- If each clone of an element is equal to it, the same elements are present in clones of a list.
  pub is_member_clones : (C : T → T → Type 0) (l m : List T) → ((x y : T) → Contains l x → C x y → IsTrue (eq x y)) → AreClones C l m → (z : T) → is_member eq m z ≡ is_member eq l z
  is_member_clones C [] [] same c z = refl
  is_member_clones C [] (y ∷ ys) same c z = absurd c
  is_member_clones C (x ∷ xs) [] same c z = absurd c
  is_member_clones C (x ∷ xs) (y ∷ ys) same c z =
      let first : eq z y ≡ eq z x = o.symm z y ∙ sym (o.congr x y z (same x y (0, omega arith, refl) c.0)) ∙ o.symm x z in
      let rest = is_member_clones C xs ys (λ v w in_rest. same v w (suc in_rest.0, omega (arith, in_rest.1), in_rest.2)) c.1 z in
      λ i. first i || rest i
