-- What queries find, and at which indices, after a change of the elements, in the words of contracts.
use Rattle.std.specs.{Borrow.Bor, Cmp.IsEquivalence, List.{AllByRecursion, IsDistinct, list_any}, Map.IsKeyTest, Option.{option_and_then}}
use Rattle.std.specs.{Prelude.{IfSome, IfOk, Err, Ok, Result, nat_lt, option_copied}, Set.is_member}
use Rattle.std.proofs.Common.{IsTrue, ◌≡◌, ◌∙◌, ◌++◌, ◌<◌, ◌-◌, ◌≤◌, ℕ, suc, zero, Bool, true, false, List, [], ◌∷◌, None, Option, Some, ap, arith, get_or, length, position, refl, remove, slice_get, sym, take, is_some, ◌||◌}
use Rattle.std.proofs.{Math.Bool.or-true, lemmas.{Bool.{cases_Bool, cases_lt, le-ltb, lt-ltb, ltb-true}, List.Folds.list_any-append}}
use Rattle.std.proofs.lemmas.{Map.Keys.{IsDistinct-head, IsDistinct-tail}, Option.{none-some, slice_get-get_or, slice_get_within}}
use Rattle.vecmap_base.specs.Items.{put_item, item_index, add, stored_first}
use Rattle.vecmap_base.proofs.{IndexLemmas.{position_cons, later, list_any_position, position_front, position_stays}, ItemsLemmas.Additions.put_item_cons}
use Rattle.vecmap_set.specs.SetIndices.{FindsAt, IsFoundAt, KeepsMatchIndices, KeepsMatchIndicesBelow, KeepsItemIndices, MovesItemIndex, ShiftsItems}
pub use Rattle.vecmap_base.proofs.IndexLemmas.{found_item_at, stored_last}

module _ {T : Type 0} (test : T → Bool) where
  pub finds_at : (s : List T) (i : ℕ) → position test s ≡ Some i → FindsAt test s i
  finds_at s i e = let hit = found_item_at test s (Some i) (sym e) in record { index = e; within = slice_get_within s i hit.0 hit.1; at = hit }

  module _ (eq : T → T → Bool) (o : IsEquivalence eq) (respects : IsKeyTest eq test) where
    -- Equal elements match the same.
    same_test : (x y : T) → eq x y ≡ true → test y ≡ test x
    same_test x y e = grind (arith, cases_Bool)

    -- An element that replaces an equal one does not change the index of a match.
    position_put : (s : List T) (x : T) (i : ℕ) → position test s ≡ Some i → position test (put_item eq s x) ≡ Some i
    position_put [] x i e = absurd (none-some i e)
    position_put (y ∷ ys) x i e = grind (arith, cases_Bool, position_cons, put_item_cons, same_test, later, (position_put ys x))

    -- No later element of a distinct list matches what its first element matches.
    misses : (y : T) (ys : List T) → test y ≡ true → AllByRecursion (λ z. eq y z ≡ false) ys → (i : ℕ) (x : T) → slice_get ys i ≡ Some x → test x ≡ true → ⊥
    misses y [] h apart i x at hit = grind (arith, none-some)
    misses y (z ∷ zs) h apart zero x at hit = grind (arith, none-some)
    misses y (z ∷ zs) h apart (suc i) x at hit = grind (arith, none-some, (misses y zs h apart.1 i x at hit))

    -- In a distinct list, an element that matches a query is the first that does.
    pub position_own : (s : List T) → IsDistinct eq s → (i : ℕ) (x : T) → slice_get s i ≡ Some x → test x ≡ true → position test s ≡ Some i
    position_own [] d i x at hit = grind (arith, none-some)
    position_own (y ∷ ys) d zero x at hit = grind (arith, cases_Bool, position_cons)
    position_own (y ∷ ys) d (suc i) x at hit = grind (arith, cases_Bool, position_cons, misses, (IsDistinct-head eq y ys d), (position_own ys (IsDistinct-tail eq y ys d) i x at hit))

    -- What is found at the index `i` of a list is found where a distinct list has that element.
    position_moved : (s r : List T) (i j : ℕ) → slice_get r j ≡ slice_get s i → IsDistinct eq r → position test s ≡ Some i → position test r ≡ Some j
    position_moved s r i j at d e =
        let found = found_item_at test s (Some i) (sym e) in
        position_own r d j found.0 (at ∙ found.1) found.2

-- Where the items are after the removal of one.
module _ {T : Type 0} where
  items_before_removal : (s : List T) (i j : ℕ) → j < i → slice_get (remove s i) j ≡ slice_get s j
  items_before_removal [] zero j l = refl
  items_before_removal [] (suc i) j l = refl
  items_before_removal (x ∷ xs) zero j l = absurd (omega (arith, l))
  items_before_removal (x ∷ xs) (suc i) zero l = refl
  items_before_removal (x ∷ xs) (suc i) (suc j) l = items_before_removal xs i j (omega (arith, l))

  items_after_removal : (s : List T) (i j : ℕ) → i ≤ j → slice_get (remove s i) j ≡ slice_get s (suc j)
  items_after_removal [] zero j l = refl
  items_after_removal [] (suc i) j l = refl
  items_after_removal (x ∷ xs) zero j l = refl
  items_after_removal (x ∷ xs) (suc i) zero l = absurd (omega (arith, l))
  items_after_removal (x ∷ xs) (suc i) (suc j) l = items_after_removal xs i j (omega (arith, l))

  -- An item is read exactly below the length.
  is_some_slice_get : (s : List T) (i : ℕ) → is_some (slice_get s i) ≡ nat_lt i (length s)
  is_some_slice_get [] i = grind (arith, le-ltb, lt-ltb, cases_lt)
  is_some_slice_get (x ∷ xs) zero = grind (arith, le-ltb, lt-ltb, cases_lt)
  is_some_slice_get (x ∷ xs) (suc i) = grind (arith, le-ltb, lt-ltb, cases_lt, (is_some_slice_get xs i))

  pub found_by_reference : (s : List T) (i : ℕ) (found : Option (Bor T)) → option_copied found ≡ slice_get s i → is_some found ≡ nat_lt i (length s)
  found_by_reference s i None e = ap is_some e ∙ is_some_slice_get s i
  found_by_reference s i (Some x) e = ap is_some e ∙ is_some_slice_get s i

  -- The last item is there if there is one.
  pub last_by_reference : (s : List T) (found : Option (Bor T)) → option_copied found ≡ slice_get s (length s - 1) → is_some found ≡ nat_lt 0 (length s)
  last_by_reference [] found e = found_by_reference [] 0 found e
  last_by_reference (x ∷ xs) found e =
      let last : length (x ∷ xs) - 1 ≡ length xs = omega arith in
      found_by_reference (x ∷ xs) (length xs) found (e ∙ ap (slice_get (x ∷ xs)) last)
      ∙ lt-ltb (length xs) (length (x ∷ xs)) (omega arith) ∙ sym (lt-ltb 0 (length (x ∷ xs)) (omega arith))

-- The clauses `index` of what is read at an index, and of a binary search: the elements are distinct.
module _ {T : Type 0} (eq : T → T → Bool) (o : IsEquivalence eq) (s : List T) (d : IsDistinct eq s) where
  pub index_at : (i : ℕ) (x : T) → slice_get s i ≡ Some x → item_index eq s x ≡ Some i
  index_at i x at = position_own (eq x) eq o (o.congr x) s d i x at (o.refl x)

  is_found_at : (i : ℕ) (x : T) → slice_get s i ≡ Some x → IsFoundAt eq i s x
  is_found_at i x at = let index = index_at i x at in record { present = list_any_position (eq x) s ∙ ap is_some index; index = index }

  pub item_by_reference : (i : ℕ) (found : Option (Bor T)) → option_copied found ≡ slice_get s i → IfSome found (λ x. IsFoundAt eq i s x.now)
  item_by_reference i None e = tt
  item_by_reference i (Some x) e = is_found_at i x.now (sym e)

  -- The same, as a slice says what is read.
  pub item_of_read : (i : ℕ) (found : Option (Bor T)) → is_some found ≡ nat_lt i (length s) → IfSome found (λ x. x.now ≡ get_or s i x.now) → IfSome found (λ x. IsFoundAt eq i s x.now)
  item_of_read i None within e = tt
  item_of_read i (Some x) within e = is_found_at i x.now (slice_get-get_or s i x.now (ltb-true i (length s) (sym within)) ∙ ap Some (sym e))

  pub finds_searched : (k : T) (r : Result ℕ ℕ) → IfOk r (λ i. (x : T) × (slice_get s i ≡ Some x) × IsTrue (eq k x)) → IfOk r (FindsAt (eq k) s)
  finds_searched k (Ok i) found = finds_at (eq k) s i (position_own (eq k) eq o (o.congr k) s d i found.0 found.1 found.2)
  finds_searched k (Err i) found = tt

-- The clauses `indices` and `present`, from the list afterwards.
module _ {T : Type 0} (s r : List T) where
  pub indices_stay : r ≡ s → KeepsMatchIndices s r
  indices_stay e test i h = ap (position test) e ∙ h

  pub indices_appended : (xs : List T) → r ≡ s ++ xs → KeepsMatchIndices s r
  indices_appended xs e test i h = ap (position test) e ∙ position_front test xs s i h

  pub indices_of_front : (n : ℕ) → r ≡ take n s → KeepsMatchIndicesBelow n s r
  indices_of_front n e test i h l = ap (position test) e ∙ position_stays test n s i h l

  pub present_in_front : (n : ℕ) → r ≡ take n s → (test : T → Bool) (i : ℕ) → position test s ≡ Some i → i < n → list_any test r ≡ true
  present_in_front n e test i h l = list_any_position test r ∙ ap is_some (indices_of_front n e test i h l)

  pub items_shift : (i : ℕ) → r ≡ remove s i → ShiftsItems i s r
  items_shift i e = grind (arith, items_before_removal, items_after_removal)

module _ {T : Type 0} (eq : T → T → Bool) (o : IsEquivalence eq) (s r : List T) where
  pub indices_of_put : (x : T) → r ≡ put_item eq s x → KeepsItemIndices eq s r
  indices_of_put x e = grind (arith, position_put)

  pub index_moved : (i j : ℕ) → slice_get r j ≡ slice_get s i → IsDistinct eq r → MovesItemIndex eq i j s r
  index_moved i j at d = grind (arith, position_moved)

module _ {T : Type 0} (test : T → Bool) where
  -- The element that a query finds matches it.
  pub stored_matches : (s : List T) (found : Option T) → found ≡ stored_first test s → IfSome found (λ x. test x ≡ true)
  stored_matches s None e = tt
  stored_matches s (Some x) e = by (position test s) refl e
    where
      by : (place : Option ℕ) → place ≡ position test s → Some x ≡ option_and_then (slice_get s) place → test x ≡ true
      by None p f = absurd (none-some x (sym f))
      by (Some i) p f = let hit = found_item_at test s (Some i) p in grind (arith, hit.1, hit.2, f)

  -- The same of a reference to it.
  pub reference_matches : (s : List T) (found : Option (Bor T)) → option_copied found ≡ stored_first test s → IfSome found (λ x. IsTrue (test x.now))
  reference_matches s None e = tt
  reference_matches s (Some x) e = stored_matches s (Some x.now) e

-- Whether a test that does not tell equal elements apart passes for some element, after an addition.
module _ {T : Type 0} (eq : T → T → Bool) (f : T → Bool) (same : (x y : T) → eq x y ≡ true → f y ≡ f x) where
  -- An element that is present and passes.
  any_there : (s : List T) (x : T) → is_member eq s x ≡ true → f x ≡ true → list_any f s ≡ true
  any_there [] x h e = grind (arith)
  any_there (y ∷ ys) x h e = grind (arith, cases_Bool, same, or-true, (any_there ys x))

  any_added : (s : List T) (x : T) → list_any f (add eq s x) ≡ (f x || list_any f s)
  any_added s x = grind (arith, cases_Bool, any_there, list_any-append, or-true)

module _ {T : Type 0} (eq : T → T → Bool) (s r : List T) (x : T) where
  pub any_of_add : r ≡ add eq s x → (f : T → Bool) → ((x y : T) → eq x y ≡ true → f y ≡ f x) → list_any f r ≡ (f x || list_any f s)
  any_of_add e f same = ap (list_any f) e ∙ any_added eq f same s x
