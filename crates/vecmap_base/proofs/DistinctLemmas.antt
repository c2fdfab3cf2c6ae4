-- When lists are distinct: by an element and the rest, after additions, of clones, in another order, and what is left
-- of them. At the end are the steps of a loop that tests a list for duplicates.
use Rattle.std.specs.{Cmp.IsEquivalence, List.{IsDistinct, AllByRecursion, list_any, between, remove_range, Sorted.IsPermutation}, Set.ClonesAreEqual}
use Rattle.std.proofs.Common.{arith, ◌≡◌, Bool, false, ◌||◌, List, [], ◌∷◌, ◌++◌, refl, ap, ◌∙◌, ℕ, ◌<◌, true, length, slice_set, suc, zero, sym, subst, get_or, true≢false, drop, reverse, swap, take, ◌+◌, ◌≤◌, filter, remove, ◌↔◌}
use Rattle.std.proofs.lemmas.{Bool.{cases_Bool, false_from_ne_true, or_left, or_right}, List.{append-nil, append_assoc, take-append-drop, drop_more, drop_all}}
use Rattle.std.proofs.lemmas.List.{Edits.split_between, Folds.list_any-append, Sorted.{IsPermutation-append_right, IsPermutation-reverse, IsPermutation-swap}}
use Rattle.std.proofs.lemmas.Map.{Keys.{IsDistinct-cons, IsDistinct-head, IsDistinct-tail, IsDistinct-push, IsDistinct-IsPermutation}, Steps.list_any_congr}
use Rattle.vecmap_base.specs.{Clones.AreClones, Items.{add, adds}, Kept.Kept}

module _ {T : Type 0} (eq : T → T → Bool) where
  pub distinct_none : IsDistinct eq []
  unfolding IsDistinct
  distinct_none = tt

  all_apart : (x : T) (xs : List T) → list_any (eq x) xs ≡ false → AllByRecursion (λ y. eq x y ≡ false) xs
  all_apart x [] e = grind (arith, cases_Bool)
  all_apart x (y ∷ ys) e = grind (arith, cases_Bool, (all_apart x ys))

  pub none_equal : (x : T) (xs : List T) → AllByRecursion (λ y. eq x y ≡ false) xs → list_any (eq x) xs ≡ false
  none_equal x [] h = refl
  none_equal x (y ∷ ys) h = ap (λ b. b || list_any (eq x) ys) h.0 ∙ none_equal x ys h.1

  apart_later : (x y : T) (xs ys : List T) → AllByRecursion (λ z. eq x z ≡ false) (xs ++ y ∷ ys) → eq x y ≡ false
  apart_later x y [] ys h = h.0
  apart_later x y (z ∷ zs) ys h = apart_later x y zs ys h.1

  -- In a distinct list, no element before `y` is equal to `y`.
  pub none_before : (o : IsEquivalence eq) (xs : List T) (y : T) (ys : List T) → IsDistinct eq (xs ++ y ∷ ys) → list_any (eq y) xs ≡ false
  unfolding IsDistinct
  none_before o [] y ys d = refl
  none_before o (x ∷ xs) y ys d = ap (λ b. b || list_any (eq y) xs) (o.symm y x ∙ apart_later x y xs ys d.0) ∙ none_before o xs y ys d.1

  pub distinct_if_absent : (x : T) (xs : List T) → list_any (eq x) xs ≡ false → IsDistinct eq xs → IsDistinct eq (x ∷ xs)
  distinct_if_absent x xs e d = IsDistinct-cons eq x xs (all_apart x xs e) d

module _ {T : Type 0} (eq : T → T → Bool) (o : IsEquivalence eq) where
  pub distinct_append : (xs ys : List T) → IsDistinct eq xs → IsDistinct eq ys → ((y : T) → list_any (eq y) ys ≡ true → list_any (eq y) xs ≡ false) → IsDistinct eq (xs ++ ys)
  distinct_append xs [] d e h = subst (IsDistinct eq) (sym (append-nil xs)) d
  distinct_append xs (y ∷ ys) d e h =
      let moved : (xs ++ y ∷ []) ++ ys ≡ xs ++ y ∷ ys = append_assoc xs (y ∷ []) ys in
      let absent : list_any (eq y) xs ≡ false = h y (or_left (eq y y) (list_any (eq y) ys) (o.refl y)) in
      subst (IsDistinct eq) moved
      (distinct_append (xs ++ y ∷ []) ys (IsDistinct-push o xs y d absent) (IsDistinct-tail eq y ys e) (λ z m.
      let apart : eq z y ≡ false = false_from_ne_true (eq z y) (λ t. true≢false (sym m ∙ list_any_congr o z y ys t ∙ none_equal eq y ys (IsDistinct-head eq y ys e))) in
      list_any-append (eq z) xs (y ∷ []) ∙ (λ t. h z (or_right (eq z y) (list_any (eq z) ys) m) t || (apart t || false))))

  all_like : (x y : T) (xs : List T) → eq x y ≡ true → AllByRecursion (λ z. eq x z ≡ false) xs → AllByRecursion (λ z. eq y z ≡ false) xs
  all_like x y [] e h = tt
  all_like x y (z ∷ zs) e h = (sym (o.congr x y z e) ∙ h.0, all_like x y zs e h.1)

  all_set : (P : T → Type 0) (xs : List T) (i : ℕ) (y : T) → P y → AllByRecursion P xs → AllByRecursion P (slice_set xs i y)
  all_set P [] i y p h = h
  all_set P (x ∷ xs) zero y p h = (p, h.1)
  all_set P (x ∷ xs) (suc i) y p h = (h.0, all_set P xs i y p h.1)

  apart_at : (x : T) (xs : List T) (i : ℕ) (y : T) → i < length xs → eq y (get_or xs i y) ≡ true → AllByRecursion (λ z. eq x z ≡ false) xs → eq x y ≡ false
  apart_at x [] i y l e h = absurd (omega arith)
  apart_at x (z ∷ zs) zero y l e h = o.symm x y ∙ o.congr y z x e ∙ o.symm z x ∙ h.0
  apart_at x (z ∷ zs) (suc i) y l e h = apart_at x zs i y (omega arith) e h.1

  -- A list stays distinct if an equal element replaces the one at the index `i`.
  pub distinct_replace : (xs : List T) (i : ℕ) (y : T) → i < length xs → eq y (get_or xs i y) ≡ true → IsDistinct eq xs → IsDistinct eq (slice_set xs i y)
  unfolding IsDistinct
  distinct_replace [] i y l e d = d
  distinct_replace (x ∷ xs) zero y l e d = (all_like x y xs (o.symm x y ∙ e) d.0, d.1)
  distinct_replace (x ∷ xs) (suc i) y l e d = (all_set (λ z. eq x z ≡ false) xs i y (apart_at x xs i y (omega arith) e d.0) d.0, distinct_replace xs i y (omega arith) e d.1)

  pub distinct_add : (s : List T) (x : T) → IsDistinct eq s → IsDistinct eq (add eq s x)
  distinct_add s x d = grind (arith, IsDistinct-push)

  pub distinct_adds : (s xs : List T) → IsDistinct eq s → IsDistinct eq (adds eq s xs)
  distinct_adds s [] d = d
  distinct_adds s (x ∷ xs) d = distinct_adds (add eq s x) xs (distinct_add s x d)

module _ {T : Type 0} (eq : T → T → Bool) (o : IsEquivalence eq) where
  -- If an element is equal to none of a list, its clone is equal to none of the clones.
  all_clones : (C : T → T → Type 0) → ClonesAreEqual eq C → (x y : T) (xs ys : List T) → C x y → AreClones C xs ys → AllByRecursion (λ z. eq x z ≡ false) xs → AllByRecursion (λ z. eq y z ≡ false) ys
  all_clones C same x y [] [] c k h = grind (arith)
  all_clones C same x y [] (w ∷ ws) c k h = grind (arith)
  all_clones C same x y (z ∷ zs) [] c k h = grind (arith)
  all_clones C same x y (z ∷ zs) (w ∷ ws) c k h = grind (arith, (all_clones C same x y zs ws c k.1 h.1))

  pub distinct_clones : (C : T → T → Type 0) → ClonesAreEqual eq C → (xs ys : List T) → AreClones C xs ys → IsDistinct eq xs → IsDistinct eq ys
  unfolding IsDistinct
  distinct_clones C same [] [] k d = tt
  distinct_clones C same [] (y ∷ ys) k d = absurd k
  distinct_clones C same (x ∷ xs) [] k d = absurd k
  distinct_clones C same (x ∷ xs) (y ∷ ys) k d = (all_clones C same x y xs ys k.0 k.1 d.0, distinct_clones C same xs ys k.1 d.1)

module _ {T : Type 0} (eq : T → T → Bool) (o : IsEquivalence eq) where
  pub distinct_rearranged : (xs ys : List T) → IsPermutation xs ys → IsDistinct eq xs → IsDistinct eq ys
  distinct_rearranged = IsDistinct-IsPermutation eq o.symm

  pub distinct_reverse : (xs : List T) → IsDistinct eq xs → IsDistinct eq (reverse xs)
  distinct_reverse xs = distinct_rearranged xs (reverse xs) (IsPermutation-reverse xs)

  pub distinct_swap : (xs : List T) (i j : ℕ) → i < length xs → j < length xs → IsDistinct eq xs → IsDistinct eq (swap xs i j)
  distinct_swap xs i j l m = distinct_rearranged xs (swap xs i j) (IsPermutation-swap xs (swap xs i j) i j l m refl)

  -- The same if only the part from `n` on is rearranged.
  pub distinct_tail : (n : ℕ) (xs ys : List T) → IsPermutation (drop n xs) ys → IsDistinct eq xs → IsDistinct eq (take n xs ++ ys)
  distinct_tail n xs ys p d = distinct_rearranged (take n xs ++ drop n xs) (take n xs ++ ys) (IsPermutation-append_right (take n xs) (drop n xs) ys p) (rw take-append-drop d)

module _ {T : Type 0} (eq : T → T → Bool) where
  all_front : (P : T → Type 0) (xs ys : List T) → AllByRecursion P (xs ++ ys) → AllByRecursion P xs
  all_front P [] ys h = tt
  all_front P (x ∷ xs) ys h = (h.0, all_front P xs ys h.1)

  pub distinct_front : (xs ys : List T) → IsDistinct eq (xs ++ ys) → IsDistinct eq xs
  unfolding IsDistinct
  distinct_front [] ys d = tt
  distinct_front (x ∷ xs) ys d = (all_front (λ y. eq x y ≡ false) xs ys d.0, distinct_front xs ys d.1)

  pub distinct_back : (xs ys : List T) → IsDistinct eq (xs ++ ys) → IsDistinct eq ys
  distinct_back [] ys d = d
  distinct_back (x ∷ xs) ys d = distinct_back xs ys (IsDistinct-tail eq x (xs ++ ys) d)

  pub distinct_take : (n : ℕ) (xs : List T) → IsDistinct eq xs → IsDistinct eq (take n xs)
  distinct_take n xs d = distinct_front (take n xs) (drop n xs) (rw take-append-drop d)

  pub distinct_drop : (n : ℕ) (xs : List T) → IsDistinct eq xs → IsDistinct eq (drop n xs)
  distinct_drop n xs d = distinct_back (take n xs) (drop n xs) (rw take-append-drop d)

  all_cut : (P : T → Type 0) (xs ys zs : List T) → AllByRecursion P (xs ++ (ys ++ zs)) → AllByRecursion P (xs ++ zs)
  all_cut P [] [] zs h = h
  all_cut P [] (y ∷ ys) zs h = all_cut P [] ys zs h.1
  all_cut P (x ∷ xs) ys zs h = (h.0, all_cut P xs ys zs h.1)

  -- A list stays distinct if its part `ys` is removed.
  pub distinct_cut : (xs ys zs : List T) → IsDistinct eq (xs ++ (ys ++ zs)) → IsDistinct eq (xs ++ zs)
  unfolding IsDistinct
  distinct_cut [] ys zs d = distinct_back ys zs d
  distinct_cut (x ∷ xs) ys zs d = (all_cut (λ y. eq x y ≡ false) xs ys zs d.0, distinct_cut xs ys zs d.1)

  pub distinct_remove_range : (xs : List T) (i j : ℕ) → i ≤ j → IsDistinct eq xs → IsDistinct eq (remove_range xs i j)
  distinct_remove_range xs i j l d = distinct_cut (take i xs) (between i j xs) (drop j xs) (subst (IsDistinct eq) (split_between xs i j l) d)

  pub distinct_remove : (xs : List T) (i : ℕ) → IsDistinct eq xs → IsDistinct eq (remove xs i)
  distinct_remove xs i d =
      let n : suc i ≡ i + 1 = omega arith in
      subst (λ m. IsDistinct eq (take i xs ++ drop m xs)) (sym n) (distinct_remove_range xs i (i + 1) (omega arith) d)

  -- What a retaining closure leaves that writes nothing: a list with only elements of the old one.
  module _ {F : Type 0} (R : F → T → Bool → T → F → Type 0) (keeps : (f g : F) (x y : T) (b : Bool) → R f x b y g → y ≡ x) where
    all_kept : (P : T → Type 0) (f g : F) (l m : List T) → Kept R f l m g → AllByRecursion P l → AllByRecursion P m
    all_kept P f g [] m k h = grind (arith)
    all_kept P f g (x ∷ xs) m k h = grind (arith, (all_kept P k.2 g xs k.3 k.5 h.1))

    pub distinct_kept : (f g : F) (l m : List T) → Kept R f l m g → IsDistinct eq l → IsDistinct eq m
    unfolding IsDistinct
    distinct_kept f g [] m k d = grind (arith, all_kept)
    distinct_kept f g (x ∷ xs) m k d = grind (arith, all_kept, (distinct_kept k.2 g xs k.3 k.5 d.1))

  all_filter : (P : T → Type 0) (p : T → Bool) (xs : List T) → AllByRecursion P xs → AllByRecursion P (filter p xs)
  all_filter P p [] h = grind (arith)
  all_filter P p (x ∷ xs) h = grind (arith, (all_filter P p xs h.1))

  pub distinct_filter : (p : T → Bool) (xs : List T) → IsDistinct eq xs → IsDistinct eq (filter p xs)
  unfolding IsDistinct
  distinct_filter p [] d = grind (arith, all_filter)
  distinct_filter p (x ∷ xs) d = grind (arith, all_filter, (distinct_filter p xs d.1))

module _ {T : Type 0} (eq : T → T → Bool) where
  -- The first `i` elements are equal to none after them. If the next one is not either, the loop goes on.
  pub distinct_more : (xs : List T) (i : ℕ) (x : T) → i < length xs → x ≡ get_or xs i x → list_any (eq x) (drop (i + 1) xs) ≡ false
      → IsDistinct eq (drop i xs) ↔ IsDistinct eq xs → IsDistinct eq (drop (i + 1) xs) ↔ IsDistinct eq xs
  distinct_more xs i x l e n w = grind (arith, drop_more, distinct_if_absent, IsDistinct-tail)

  -- If the next element is equal to one after it, the list is not distinct.
  pub repeat_at : (xs : List T) (i : ℕ) (x : T) → i < length xs → x ≡ get_or xs i x → list_any (eq x) (drop (i + 1) xs) ≡ true
      → IsDistinct eq (drop i xs) ↔ IsDistinct eq xs → IsDistinct eq xs → ⊥
  repeat_at xs i x l e n w d = grind (arith, drop_more, none_equal, IsDistinct-head)

  -- At the end of the loop, the list is distinct.
  pub distinct_all : (xs : List T) (i : ℕ) → length xs ≤ i → IsDistinct eq (drop i xs) ↔ IsDistinct eq xs → IsDistinct eq xs
  distinct_all xs i l w = w.0 (subst (IsDistinct eq) (sym (drop_all i xs l)) (distinct_none eq))
