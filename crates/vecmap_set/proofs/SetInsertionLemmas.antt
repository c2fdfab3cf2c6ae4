-- The records of insertions, from the list that is left.
use Rattle.std.specs.{Cmp.IsEquivalence, List.{IsDistinct, list_any}, Map.IsKeyTest, Option.option_map_or, Set.is_member}
use Rattle.std.proofs.Common.{◌≡◌, ◌∙◌, ◌++◌, ◌+◌, ℕ, Bool, true, false, List, [], ◌∷◌, None, Option, Some, IsTrue, ap, arith, if◌then◌else◌, inl, inr, is_some, length, length-append, not, position, refl, slice_set, subst, sym, true≢false}
use Rattle.std.proofs.lemmas.{Bool.cases_Bool, List.Folds.list_any-append, List.length-set}
use Rattle.vecmap_base.specs.{Items.{add, item_index, put_item}, Lookups.UpdatesMember}
use Rattle.vecmap_base.proofs.{IndexLemmas.{list_any_position, position_appended, position_none, stored_last}, ItemsLemmas.Changes.members_of_put}
use Rattle.vecmap_base.proofs.{ItemsLemmas.Additions.add_absent, ItemsLemmas.Members.{members_appended_by, members_matched}}
use Rattle.vecmap_set.specs.SetInsertions.{AddsItem, AddsItemBy, AppendsItem, PutsItem}
use Rattle.vecmap_set.proofs.SetIndexLemmas.{indices_appended, indices_of_put, indices_stay, any_of_add}

pub appends_item : {T : Type 0} (s r : List T) (x : T) → r ≡ s ++ x ∷ [] → AppendsItem s x r
appends_item s r x e = record {
  elements = e;
  any = λ f. ap (list_any f) e ∙ list_any-append f s (x ∷ []) ∙ grind (arith, cases_Bool);
  at = stored_last s r x e;
}

module _ {T : Type 0} (eq : T → T → Bool) (o : IsEquivalence eq) (s r : List T) (d : IsDistinct eq r) (x : T) where
  module _ (test : T → Bool) (respects : IsKeyTest eq test) where
    pub adds_item_by : IsTrue (test x) → r ≡ (if list_any test s then s else s ++ x ∷ []) → AddsItemBy eq test s r
    adds_item_by hit e =
        elim (cases_Bool (list_any test s)) [
          | inl h ↦
              let same : r ≡ s = e ∙ ap (λ b. if b then s else s ++ x ∷ []) h in
              record {
                elements = (x, hit, e);
                distinct = d;
                updates = subst (λ l. UpdatesMember eq test s l true) (sym same) (members_matched eq o test respects s h);
                len = rw h (let long = ap length same in omega (arith, long));
                indices = indices_stay s r same;
              }
          | inr n ↦
              let more : r ≡ s ++ x ∷ [] = e ∙ ap (λ b. if b then s else s ++ x ∷ []) n in
              record {
                elements = (x, hit, e);
                distinct = d;
                updates = members_appended_by eq o test respects s r x more (position_none test s n) hit;
                len = rw n (ap length more ∙ length-append s (x ∷ []));
                indices = indices_appended s r (x ∷ []) more;
              }
        ]

  is_new : (b : Bool) → IsTrue (not b) → b ≡ false
  is_new true h = absurd (true≢false (sym h))
  is_new false h = refl

  last : (is_member eq s x ≡ false → r ≡ s ++ x ∷ []) → is_member eq s x ≡ false → item_index eq r x ≡ Some (length s)
  last appended new = ap (position (eq x)) (appended new) ∙ position_appended (eq x) s x (position_none (eq x) s new) (o.refl x)

  pub adds_item : r ≡ add eq s x → AddsItem eq s x r
  adds_item e =
      let added = adds_item_by (eq x) (o.congr x) (o.refl x) e in
      let appended : is_member eq s x ≡ false → r ≡ s ++ x ∷ [] = λ new. e ∙ add_absent eq s x new in
      record {
        elements = e;
        distinct = d;
        updates = added.updates;
        any = any_of_add eq s r x e;
        appended = λ new. appended (is_new (is_member eq s x) new);
        index = last appended;
        len = added.len;
        indices = added.indices;
      }

  -- The same of a list that a new element was appended to.
  pub adds_new_item : r ≡ s ++ x ∷ [] → is_member eq s x ≡ false → AddsItem eq s x r
  adds_new_item e n = adds_item (e ∙ sym (add_absent eq s x n))

  pub puts_item : r ≡ put_item eq s x → PutsItem eq s x r
  puts_item e = record {
    elements = e;
    distinct = d;
    updates = members_of_put eq o s r x e;
    appended = appended;
    index = last appended;
    len = ap length e ∙ len (position (eq x) s) ∙ ap (λ b. length s + (if b then 0 else 1)) (sym (list_any_position (eq x) s));
    indices = indices_of_put eq o s r x e;
  }
    where
      put_at : (found : Option ℕ) → List T
      put_at found = option_map_or (λ i. slice_set s i x) found (s ++ x ∷ [])

      by : (found : Option ℕ) → is_some found ≡ false → put_at found ≡ s ++ x ∷ []
      by None f = refl
      by (Some i) f = absurd (true≢false f)

      appended : is_member eq s x ≡ false → r ≡ s ++ x ∷ []
      appended new = e ∙ by (position (eq x) s) (sym (list_any_position (eq x) s) ∙ new)

      len : (found : Option ℕ) → length (put_at found) ≡ length s + (if is_some found then 0 else 1)
      len None = length-append s (x ∷ [])
      len (Some i) = let same = length-set s i x in omega (arith, same)
