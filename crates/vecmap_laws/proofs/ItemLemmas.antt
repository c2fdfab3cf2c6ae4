-- Which elements are present, and at which indices, after one addition, after many, and after a removal. Many additions
-- append those of the new elements that are not present. A query here matches exactly the items that are equal to one
-- of its matches.
use Rattle.std.specs.{Cmp.IsEquivalence, List.{IsDistinct, list_any}, Map.IsKeyTest, Option.option_or, Set.is_member}
use Rattle.std.proofs.Common.{Bool, List, Some, [], ap, arith, false, length, option_map, position, refl, slice_get, suc, sym, zero, ℕ, ◌++◌, ◌+◌, ◌<◌, ◌||◌, ◌∙◌, ◌∷◌, ◌≡◌, true, None, Option, if◌then◌else◌, unwrap_or, is_some, true≢false, IsTrue}
use Rattle.std.proofs.lemmas.{Bool.cases_Bool, Grind.common_steps, List.{append-nil, append_assoc, Folds.list_any-append, Sums.fold-append}}
use Rattle.vecmap_base.specs.Items.{add, adds, item_index, only, without_first, without_item}
use Rattle.vecmap_base.proofs.IndexLemmas.{position_cons, is_some_position, position_none}
use Rattle.vecmap_base.proofs.ItemsLemmas.{Additions.{add_absent, add_present, item_index_cons, add_cons}, Members.{members_of_add, members_of_first}}
use Rattle.vecmap_base.proofs.{PairsLemmas.LookupsAfterChanges.compares_with, TakenLemmas.first_by_shift}
use Rattle.vecmap_set.proofs.SetIndexLemmas.{position_own}

module _ {X : Type 0} (p : X → Bool) where
  -- In a list of two parts, an item passes in the first part, or else in the second.
  pub position_append : (xs ys : List X) → position p (xs ++ ys) ≡ option_or (position p xs) (option_map (λ i. length xs + i) (position p ys))
  position_append [] ys = grind (arith, option_map, position_cons)
  position_append (x ∷ xs) ys = grind (arith, option_map, position_cons, (position_append xs ys))

-- An item of the front of a list is at its index in the whole list.
pub slice_get_append : {T : Type 0} (s t : List T) (i : ℕ) → i < length s → slice_get (s ++ t) i ≡ slice_get s i
slice_get_append [] t i h = absurd (omega arith)
slice_get_append (x ∷ xs) t zero h = refl
slice_get_append (x ∷ xs) t (suc i) h = slice_get_append xs t i (omega arith)

module _ {T : Type 0} (eq : T → T → Bool) where
  -- The index of an element in a list of two parts.
  pub item_index_append : (s t : List T) (x : T) → item_index eq (s ++ t) x ≡ option_or (item_index eq s x) (option_map (λ i. length s + i) (item_index eq t x))
  item_index_append s t x = position_append (eq x) s t

  -- An addition behind a front, in which the element is absent.
  add_behind : (s t : List T) (x : T) → is_member eq s x ≡ false → add eq (s ++ t) x ≡ s ++ add eq t x
  add_behind s t x none = grind (arith, list_any-append, add_present, add_absent, append_assoc)

  adds_behind : (s t xs : List T) → adds eq (s ++ t) xs ≡ s ++ adds eq t (only eq xs s)
  adds_behind s t [] = grind (arith, cases_Bool, add_present, list_any-append, add_behind)
  adds_behind s t (x ∷ xs) = grind (arith, cases_Bool, add_present, list_any-append, add_behind, (adds_behind s t xs), (adds_behind s (add eq t x) xs))

  -- Many additions append the new elements that are absent, each once.
  pub adds_as_append : (s xs : List T) → adds eq s xs ≡ s ++ adds eq [] (only eq xs s)
  adds_as_append s xs = ap (λ m. adds eq m xs) (sym (append-nil s)) ∙ adds_behind s [] xs

  -- Many additions move no element.
  pub slice_get_adds : (s xs : List T) (i : ℕ) → i < length s → slice_get (adds eq s xs) i ≡ slice_get s i
  slice_get_adds s xs i h = ap (λ m. slice_get m i) (adds_as_append s xs) ∙ slice_get_append s (adds eq [] (only eq xs s)) i h

  -- After many additions, an element that was present keeps its index, and the others follow.
  pub item_index_adds : (s xs : List T) (x : T) → item_index eq (adds eq s xs) x ≡ option_or (item_index eq s x) (option_map (λ i. length s + i) (item_index eq (adds eq [] (only eq xs s)) x))
  item_index_adds s xs x = ap (λ m. item_index eq m x) (adds_as_append s xs) ∙ item_index_append s (adds eq [] (only eq xs s)) x

  pub item_index_adds_kept : (s xs : List T) (x : T) (i : ℕ) → item_index eq s x ≡ Some i → item_index eq (adds eq s xs) x ≡ Some i
  item_index_adds_kept s xs x i e =
      item_index_adds s xs x ∙ ap (λ found. option_or found (option_map (λ j. length s + j) (item_index eq (adds eq [] (only eq xs s)) x))) e

  module _ (o : IsEquivalence eq) where
    -- After an addition, an element is present if it was, or if it is equal to the added one.
    pub is_member_add : (s : List T) (x y : T) → is_member eq (add eq s x) y ≡ (is_member eq s y || eq x y)
    is_member_add s x y = grind (arith, common_steps, members_of_add)

module _ {T : Type 0} (eq : T → T → Bool) where
  -- Elements that are added in two parts are added as a whole.
  pub adds_append : (s xs ys : List T) → adds eq s (xs ++ ys) ≡ adds eq (adds eq s xs) ys
  adds_append s xs ys = fold-append (add eq) s xs ys

pub or_none : {X : Type 0} (a : Option X) → option_or a None ≡ a
or_none None = refl
or_none (Some x) = refl

module _ {T : Type 0} (eq : T → T → Bool) where
  -- An addition moves no element.
  pub slice_get_add : (s : List T) (x : T) (i : ℕ) → i < length s → slice_get (add eq s x) i ≡ slice_get s i
  slice_get_add s x i h = grind (arith, slice_get_append)

  module _ (o : IsEquivalence eq) where
    -- Equal elements have the same index.
    pub item_index_congr : (s : List T) (x y : T) → eq x y ≡ true → item_index eq s x ≡ item_index eq s y
    item_index_congr s x y e = λ t. item_index (λ a z. o.congr x y z e t) s x

    -- After an addition, `x` has the index of its equal, or is last. Every other element keeps its index.
    pub item_index_add : (s : List T) (x y : T) → item_index eq (add eq s x) y ≡ (if eq x y then Some (unwrap_or (item_index eq s x) (length s)) else item_index eq s y)
    item_index_add s x y = by (is_member eq s x) refl
      where
        old : Bool → Option ℕ
        old c = if c then Some (unwrap_or (item_index eq s x) (length s)) else item_index eq s y

        found : (o : Option ℕ) → is_some o ≡ true → o ≡ Some (unwrap_or o (length s))
        found None e = absurd (true≢false (sym e))
        found (Some i) e = refl

        present : (c : Bool) → eq x y ≡ c → is_member eq s x ≡ true → item_index eq s y ≡ old c
        present true f e = sym (item_index_congr s x y f) ∙ found (item_index eq s x) (is_some_position (eq x) s ∙ e)
        present false f e = refl

        absent : (c : Bool) → eq x y ≡ c → item_index eq s x ≡ None → option_or (item_index eq s y) (option_map (λ i. length s + i) (if c then Some 0 else None)) ≡ old c
        absent true f e =
            (λ t. option_or ((sym (item_index_congr s x y f) ∙ e) t) (Some (length s + 0)))
            ∙ ap Some (let z : length s + 0 ≡ length s = omega arith in z) ∙ sym (ap (λ o. Some (unwrap_or o (length s))) e)
        absent false f e = or_none (item_index eq s y)

        by : (b : Bool) → is_member eq s x ≡ b → item_index eq (if b then s else s ++ x ∷ []) y ≡ old (eq x y)
        by true e = present (eq x y) refl e
        by false e =
            item_index_append eq s (x ∷ []) y
            ∙ ap (λ o. option_or (item_index eq s y) (option_map (λ i. length s + i) o)) (item_index_cons eq x [] y ∙ ap (λ c. if c then Some 0 else None) (o.symm y x))
            ∙ absent (eq x y) refl (position_none (eq x) s e)

    -- If no two elements are equal, each is found at its own index.
    pub item_index_own : (s : List T) → IsDistinct eq s → (i : ℕ) (x : T) → slice_get s i ≡ Some x → item_index eq s x ≡ Some i
    item_index_own s d i x e = position_own (eq x) eq o (o.congr x) s d i x e (o.refl x)

module _ {T : Type 0} (eq : T → T → Bool) (o : IsEquivalence eq) (test : T → Bool) (respects : IsKeyTest eq test) where
  -- After the removal of its match from a distinct list, a query matches nothing.
  pub without_query_absent : (s : List T) → IsDistinct eq s → list_any test (without_first test s) ≡ false
  without_query_absent s d = (members_of_first eq o test respects s _ (first_by_shift s (without_first test s) test refl) d).own

module _ {T : Type 0} (eq : T → T → Bool) (o : IsEquivalence eq) where
  -- After a removal from a distinct list, no equal element is left.
  pub without_item_absent : (s : List T) (x : T) → IsDistinct eq s → is_member eq (without_item eq s x) x ≡ false
  without_item_absent s x d = (members_of_first eq o (eq x) (o.congr x) s _ (first_by_shift s (without_item eq s x) (eq x) refl) d).own

module _ {T : Type 0} (eq : T → T → Bool) (test : T → Bool) where
  -- After an addition of an element that does not match, a query finds what it found before.
  pub index_after_other : (s : List T) (x : T) → test x ≡ false → position test (add eq s x) ≡ position test s
  index_after_other [] x n = grind (arith, position_cons, option_map, add_cons, cases_Bool)
  index_after_other (z ∷ zs) x n = grind (arith, position_cons, option_map, add_cons, cases_Bool, (index_after_other zs x n))

  module _ (o : IsEquivalence eq) (respects : IsKeyTest eq test) where
    -- After an addition of an element that matches, a query finds the index of an equal existing element, or the last index.
    pub index_after_own : (s : List T) (x : T) → IsTrue (test x) → position test (add eq s x) ≡ Some (unwrap_or (position test s) (length s))
    index_after_own s x h =
        let same = compares_with eq o test respects x h in
        ap (λ f. position f (add eq s x)) same
        ∙ item_index_add eq o s x x
        ∙ ap (λ b. if b then Some (unwrap_or (item_index eq s x) (length s)) else item_index eq s x) (o.refl x)
        ∙ sym (ap (λ f. Some (unwrap_or (position f s) (length s))) same)

    -- Both cases in one.
    pub index_after_any : (s : List T) (x : T) → position test (add eq s x) ≡ (if test x then Some (unwrap_or (position test s) (length s)) else position test s)
    index_after_any s x = grind (arith, cases_Bool, index_after_own, index_after_other)
