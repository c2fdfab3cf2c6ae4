-- The records of removals of elements, from the list that is left.
use Rattle.std.specs.{Cmp.IsEquivalence, List.IsDistinct, List.Sorted.IsPermutation, Map.IsKeyTest, Option.option_to_list}
use Rattle.std.proofs.Common.{◌≡◌, ◌∙◌, ◌-◌, ◌++◌, ◌<◌, ◌≤◌, ℕ, Bool, List, Option, Some, ◌∷◌, ap, arith, drop, inl, inr, is_some, length, length-append, position, remove, slice_get, sym, subst, take}
use Rattle.std.proofs.{lemmas.List.{length-take, length-take-le, take-append-drop}, lemmas.List.Sorted.list_any-IsPermutation, lemmas.Map.Keys.IsDistinct-tail, lemmas.Option.same_Some}
use Rattle.vecmap_base.specs.{Items.{stored_first, swap_without, swap_without_first, without_first}, Kept.Kept}
use Rattle.vecmap_base.proofs.DistinctLemmas.{distinct_rearranged, distinct_drop, distinct_kept, distinct_take}
use Rattle.vecmap_base.proofs.{IndexLemmas.{list_any_stored, position_before, position_none}, ItemsLemmas.Additions.adds_apart}
use Rattle.vecmap_base.proofs.ItemsLemmas.Changes.{matches_of_front, matches_of_parts, members_popped}
use Rattle.vecmap_base.proofs.{ItemsLemmas.Members.{any_filtered, members_of_first, members_removed}, PairsLemmas.Retained.{filter_kept, length_kept}}
use Rattle.vecmap_base.proofs.TakenLemmas.{TakesAt, TakesFirst, at_swap_removed, first_by_shift, first_by_swap, last_read, len_of_first, len_popped, one_less, taken_by_shift, taken_by_swap}
use Rattle.vecmap_set.specs.SetIndices.{MovesItemIndex}
use Rattle.vecmap_set.specs.SetRemovals.{FindsItem, KeepsFrontItems, RemovesItemAt, RemovesItemBy, RemovesLastItem, RetainsItems, SplitsItems, Takes}
use Rattle.vecmap_set.proofs.SetIndexLemmas.{index_moved, indices_of_front, present_in_front, stored_matches}

module _ {T : Type 0} where
  pub finds_item : (test : T → Bool) (s : List T) (r : Option T) → r ≡ stored_first test s → FindsItem test s r
  finds_item test s r e = record { element = e; found = ap is_some e ∙ sym (list_any_stored test s); matched = stored_matches test s r e }

module _ {T : Type 0} (eq : T → T → Bool) where
  pub keeps_front_items : (n : ℕ) (s r : List T) → IsDistinct eq s → r ≡ take n s → KeepsFrontItems eq n s r
  keeps_front_items n s r d e = record {
    elements = e;
    distinct = subst (IsDistinct eq) (sym e) (distinct_take eq n s d);
    matches = λ test. matches_of_front test n s r e;
    present = present_in_front s r n e;
    len = ap length e ∙ length-take n s;
    indices = indices_of_front s r n e;
  }

  pub retains_items : {F : Type 0} (R : F → T → Bool → T → F → Type 0) → ((f : F) (x : T) (b : Bool) (y : T) (g : F) → R f x b y g → y ≡ x) → (f : F) (s r : List T) → IsDistinct eq s → ((g : F) × Kept R f s r g) → RetainsItems eq R f s r
  retains_items R same f s r d calls = record {
    calls = calls;
    filters = λ keep told. filter_kept R keep f calls.0 s r told calls.1;
    distinct = distinct_kept eq R (λ f g x y b call. same f x b y g call) f calls.0 s r calls.1 d;
    matches = λ query kept told. any_filtered R same query kept f calls.0 s r told calls.1;
    len = length_kept R f calls.0 s r calls.1;
  }

module _ {T : Type 0} (eq : T → T → Bool) (o : IsEquivalence eq) where
  module _ (test : T → Bool) (respects : IsKeyTest eq test) (s r : List T) (d : IsDistinct eq s) where
    distinct_first : TakesFirst s r test → IsDistinct eq r
    distinct_first (inl n) = subst (IsDistinct eq) (sym n.1) d
    distinct_first (inr t) = IsDistinct-tail eq t.1 r (distinct_rearranged eq o s (t.1 ∷ r) t.2.1 d)

    before_first : TakesFirst s r test → (other : T → Bool) (i j : ℕ) → position test s ≡ Some j → position other s ≡ Some i → i < j → position other r ≡ Some i
    before_first (inl n) other i j p q l = ap (position other) n.1 ∙ q
    before_first (inr t) other i j p q l = let same = same_Some j t.0 (sym p ∙ t.3) in position_before other s r t.0 i t.2.2 (omega (arith, same, l)) q

    removes_by : (without : (T → Bool) → List T → List T) → r ≡ without test s → TakesFirst s r test → RemovesItemBy eq without test s r
    removes_by without e first =
        let updates = members_of_first eq o test respects s r first d in
        record {
          elements = e;
          distinct = distinct_first first;
          updates = updates;
          gone = position_none test r updates.own;
          before = before_first first;
          len = len_of_first s r test first;
        }

    pub removes_item_by : r ≡ without_first test s → RemovesItemBy eq without_first test s r
    removes_item_by e = removes_by without_first e (first_by_shift s r test e)

    pub swap_removes_item_by : r ≡ swap_without_first test s → RemovesItemBy eq swap_without_first test s r
    swap_removes_item_by e = removes_by swap_without_first e (first_by_swap s r test e)

  module _ (s r : List T) (d : IsDistinct eq s) where
    takes : (x : T) → IsPermutation s (x ∷ r) → Takes x s r
    takes x moved f = list_any-IsPermutation f s (x ∷ r) moved

    removes_at : (without : List T → ℕ → List T) (i : ℕ) (x : T) → r ≡ without s i → TakesAt s r i x → RemovesItemAt eq without i s x r
    removes_at without i x e at = record {
      element = at.0;
      elements = e;
      updates = members_removed eq o s r x at.1 d;
      any = takes x at.1;
      len = one_less s r x at.1;
      indices = λ test j h l. position_before test s r i j at.2 l h;
    }

    pub removes_item_at : (i : ℕ) (x : T) → r ≡ remove s i → slice_get s i ≡ Some x → RemovesItemAt eq remove i s x r
    removes_item_at i x e read = removes_at remove i x e (taken_by_shift s r i x e read)

    pub swap_removes_item_at : (i : ℕ) (x : T) → r ≡ swap_without s i → slice_get s i ≡ Some x → RemovesItemAt eq swap_without i s x r
    swap_removes_item_at i x e read = removes_at swap_without i x e (taken_by_swap s r i x e read)

    pub distinct_swap_removed : (i : ℕ) (x : T) → RemovesItemAt eq swap_without i s x r → IsDistinct eq r
    distinct_swap_removed i x removal = IsDistinct-tail eq x r (distinct_rearranged eq o s (x ∷ r) (taken_by_swap s r i x removal.elements removal.element).1 d)

    pub last_item_moves : (i : ℕ) (x : T) → RemovesItemAt eq swap_without i s x r → i < length s - 1 → MovesItemIndex eq (length s - 1) i s r
    last_item_moves i x removal last = index_moved eq o s r (length s - 1) i (at_swap_removed s r i x removal.elements removal.element last) (distinct_swap_removed i x removal)

    pub removes_last_item : (last : Option T) → r ≡ take (length s - 1) s → s ≡ r ++ option_to_list last → RemovesLastItem eq s last r
    removes_last_item last front parts = record {
      element = last_read s r last front parts;
      front = keeps_front_items eq (length s - 1) s r d front;
      distinct = subst (IsDistinct eq) (sym front) (distinct_take eq (length s - 1) s d);
      updates = members_popped eq o s r last parts d;
      len = len_popped s r last parts;
    }

    pub splits_items : (n : ℕ) (rest : List T) → n ≤ length s → r ≡ take n s → rest ≡ drop n s → SplitsItems eq n s r rest
    splits_items n rest within front part =
        let whole : r ++ rest ≡ s = (λ i. front i ++ part i) ∙ take-append-drop n s in
        record {
          front = keeps_front_items eq n s r d front;
          part = part;
          part_distinct = subst (IsDistinct eq) (sym part) (distinct_drop eq n s d);
          part_matches = λ test. matches_of_parts test n s r rest front part;
          len = (ap length front ∙ length-take-le n s within, sym (length-append r rest) ∙ ap length whole);
          joined = adds_apart eq o r rest (subst (IsDistinct eq) (sym whole) d) ∙ whole;
        }
