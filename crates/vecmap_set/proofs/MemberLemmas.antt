-- The records of calls that add or copy many elements, from the list that is left.
use Rattle.std.specs.{Cmp.IsEquivalence, List.IsDistinct, Set.is_member}
use Rattle.std.proofs.Common.{◌≡◌, ◌∙◌, ◌+◌, ◌++◌, ◌<◌, ◌≤◌, Bool, Contains, IsTrue, List, [], ◌∷◌, ap, arith, false, if◌then◌else◌, length, length-append, subst, sym, take, true}
use Rattle.std.proofs.{Math.Seq.take-append_seam}
use Rattle.std.proofs.lemmas.{Bool.or_right, List.append-nil, List.append_assoc, List.Sums.fold-append, Map.Made.length-le_from_is_member}
use Rattle.vecmap_base.specs.{Clones.AreClones, Items.{add, adds}}
use Rattle.vecmap_base.proofs.DistinctLemmas.{distinct_none, none_before, distinct_adds, distinct_append}
use Rattle.vecmap_base.proofs.{EqualityLemmas.Sets.{apart_if_none_shared, both_empty_turned, same_items}, ItemsLemmas.Additions.{add_present, adds_apart}}
use Rattle.vecmap_base.proofs.ItemsLemmas.{Changes.is_member_clones, Members.is_member_adds}
use Rattle.vecmap_set.{specs.SetBulk.{AddsClones, AddsItems, CopiesItems, JoinsItems}, proofs.{SetIndexLemmas.indices_appended, SetLemmas.distinct_clones_of}}

-- Clones are as many as their originals.
pub length_of_clones : {T : Type 0} (C : T → T → Type 0) (xs ys : List T) → AreClones C xs ys → length ys ≡ length xs
length_of_clones C [] [] c = omega arith
length_of_clones C [] (y ∷ ys) c = absurd c
length_of_clones C (x ∷ xs) [] c = absurd c
length_of_clones C (x ∷ xs) (y ∷ ys) c = omega (arith, length_of_clones C xs ys c.1)

module _ {T : Type 0} (eq : T → T → Bool) (o : IsEquivalence eq) where
  -- Many additions append some elements, and no more than there are.
  appended : (s xs : List T) → (ys : List T) × (adds eq s xs ≡ s ++ ys) × (length ys ≤ length xs)
  appended s [] = ([], sym (append-nil s), omega arith)
  appended s (x ∷ xs) = by (is_member eq s x) (appended s xs) (appended (s ++ x ∷ []) xs)
    where
      by : (b : Bool) → (ys : List T) × (adds eq s xs ≡ s ++ ys) × (length ys ≤ length xs) → (ys : List T) × (adds eq (s ++ x ∷ []) xs ≡ (s ++ x ∷ []) ++ ys) × (length ys ≤ length xs) → (ys : List T) × (adds eq (if b then s else s ++ x ∷ []) xs ≡ s ++ ys) × (length ys ≤ length (x ∷ xs))
      by true one two = (one.0, one.1, omega (arith, one.2))
      by false one two = (x ∷ two.0, two.1 ∙ append_assoc s (x ∷ []) two.0, omega (arith, two.2))

  -- After additions the list has an element.
  added_some : (s xs : List T) → 0 < length xs → 0 < length (adds eq s xs)
  added_some [] [] h = absurd (omega (arith, h))
  added_some [] (x ∷ xs) h = let more = appended (x ∷ []) xs in omega (arith, ap length more.1 ∙ length-append (x ∷ []) more.0)
  added_some (y ∷ s) xs h = let more = appended (y ∷ s) xs in omega (arith, ap length more.1 ∙ length-append (y ∷ s) more.0)

  -- Additions append, so the front of the list is what it was.
  pub front_of_adds : (s xs r : List T) → r ≡ adds eq s xs → take (length s) r ≡ s
  front_of_adds s xs r e = let more = appended s xs in ap (take (length s)) (e ∙ more.1) ∙ take-append_seam s more.0

  -- An element that was not in the list, and is added once, is not in it yet.
  pub absent_from_adds : (s xs rest r : List T) (x : T) → r ≡ adds eq s xs → IsDistinct eq (xs ++ x ∷ rest) → is_member eq (take (length s) r) x ≡ false → is_member eq r x ≡ false
  absent_from_adds s xs rest r x e d none =
      let first : is_member eq s x ≡ false = subst (λ l. is_member eq l x ≡ false) (front_of_adds s xs r e) none in
      let more : is_member eq xs x ≡ false = none_before eq o xs x rest d in
      ap (λ l. is_member eq l x) e ∙ is_member_adds eq o s xs x ∙ grind (arith, first, more)

  -- One more addition, of an element that was in the list.
  pub adds_present : (s xs r : List T) (x : T) → r ≡ adds eq s xs → is_member eq (take (length s) r) x ≡ true → r ≡ adds eq s (xs ++ x ∷ [])
  adds_present s xs r x e some =
      let first : is_member eq s x ≡ true = subst (λ l. is_member eq l x ≡ true) (front_of_adds s xs r e) some in
      let present : is_member eq (adds eq s xs) x ≡ true = is_member_adds eq o s xs x ∙ grind (arith, first) in
      e ∙ sym (add_present eq (adds eq s xs) x present) ∙ sym (fold-append (add eq) s xs (x ∷ []))

  pub adds_items : (s xs r : List T) → IsDistinct eq s → r ≡ adds eq s xs → AddsItems eq s xs r
  adds_items s xs r d e =
      let more = appended s xs in
      let long : length r ≡ length s + length more.0 = ap length e ∙ ap length more.1 ∙ length-append s more.0 in
      record {
        elements = e;
        distinct = subst (IsDistinct eq) (sym e) (distinct_adds eq o s xs d);
        members = λ q. ap (λ l. is_member eq l q) e ∙ is_member_adds eq o s xs q;
        len = (omega (arith, long), omega (arith, long, more.2));
        not_empty = λ h. subst (λ l. 0 < length l) (sym e) (added_some s xs h);
        indices = indices_appended s r more.0 (e ∙ more.1);
        as_given = λ apart. e ∙ adds_apart eq o s xs apart;
      }

  pub joins_items : (s xs r : List T) → IsDistinct eq s → IsDistinct eq xs → r ≡ adds eq s xs → JoinsItems eq s xs r
  joins_items s xs r d k e =
      let added = adds_items s xs r d e in
      record {
        added = added;
        enough = length-le_from_is_member o xs r k (λ q h. added.members q ∙ or_right (is_member eq s q) (is_member eq xs q) h);
        apart = λ none. ap length (added.as_given (distinct_append eq o s xs d k (apart_if_none_shared eq o xs s (both_empty_turned eq o s xs none)))) ∙ length-append s xs;
      }

  module _ (C : T → T → Type 0) where
    pub adds_clones : (xs ys r : List T) → AreClones C xs ys → r ≡ adds eq [] ys → AddsClones eq C xs r
    adds_clones xs ys r clones e =
        let added = adds_items [] ys r (distinct_none eq) e in
        record {
          elements = (ys, clones, e);
          distinct = added.distinct;
          members = λ same q. added.members q ∙ is_member_clones eq o C xs ys same clones q;
          len = omega (arith, added.len.1, length_of_clones C xs ys clones);
        }

    pub copies_items : (s r : List T) → ((x y : T) → Contains s x → C x y → IsTrue (eq x y)) → AreClones C s r → IsDistinct eq s → CopiesItems eq C s r
    copies_items s r same clones d =
        let members = is_member_clones eq o C s r same clones in
        record { elements = clones; distinct = distinct_clones_of eq o C s r same clones d; members = members; len = length_of_clones C s r clones; equal = same_items eq o r s members }
