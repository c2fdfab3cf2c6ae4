-- The index of the first element of a list that passes a test.
use Rattle.std.specs.Prelude.{◌≡◌, ℕ, zero, suc, ◌+◌, ◌<◌, Bool, true, false, ◌||◌, nat_lt, List, [], ◌∷◌, ◌++◌, Option, None, Some, IfSome, drop, is_some, length, map, position, slice_get, take, refl}
use Rattle.std.specs.{List.{list_any, position_or_len}, Option.{option_and_then, option_map}}
use Rattle.std.proofs.{lemmas.Option.{none-some, slice_get-get_or}, Math.Seq.get_or-append_seam, lemmas.List.Quantifiers.position-Some}
use Rattle.std.proofs.Common.{cond, sym, ap, ◌∙◌, arith, get_or, take_at, true≢false, inl, inr}
use Rattle.std.proofs.{lemmas.Bool.{cases_Bool, false_from_ne_true, lt-ltb, ltb-true}, lemmas.List.{length-append, take-append-drop}}
use Rattle.std.proofs.lemmas.List.Folds.{list_any_at, list_any_more}

pub is_some-map : {X Y : Type 0} (f : X → Y) (o : Option X) → is_some (option_map f o) ≡ is_some o
is_some-map f None = refl
is_some-map f (Some x) = refl

-- The last item of a list.
module _ {X : Type 0} where
  pub slice_get_last : (xs : List X) (x : X) → slice_get (xs ++ x ∷ []) (length xs) ≡ Some x
  slice_get_last [] x = refl
  slice_get_last (y ∷ ys) x = slice_get_last ys x

module _ {X : Type 0} (p : X → Bool) where
  -- The first index in a list with one element more.
  pub position_cons : (x : X) (xs : List X) → position p (x ∷ xs) ≡ cond (p x) (Some 0) (option_map suc (position p xs))
  position_cons x xs = grind (arith, lt-ltb, ltb-true)

  position-hit : (x : X) (xs : List X) → p x ≡ true → position p (x ∷ xs) ≡ Some 0
  position-hit x xs e = position_cons x xs ∙ ap (λ b. cond b (Some 0) (option_map suc (position p xs))) e

  position-miss : (x : X) (xs : List X) → p x ≡ false → position p (x ∷ xs) ≡ option_map suc (position p xs)
  position-miss x xs e = position_cons x xs ∙ ap (λ b. cond b (Some 0) (option_map suc (position p xs))) e

  -- There is a first index exactly if an element passes.
  pub is_some_position : (xs : List X) → is_some (position p xs) ≡ list_any p xs
  is_some_position [] = grind (arith, cases_Bool, position-hit, position-miss, is_some-map)
  is_some_position (x ∷ xs) = grind (arith, cases_Bool, position-hit, position-miss, is_some-map, (is_some_position xs))

  pub list_any_position : (xs : List X) → list_any p xs ≡ is_some (position p xs)
  list_any_position xs = sym (is_some_position xs)

  -- An element passes exactly if the first that passes is stored.
  pub list_any_stored : (xs : List X) → list_any p xs ≡ is_some (option_and_then (slice_get xs) (position p xs))
  list_any_stored xs =
      elim (cases_Bool (nat_lt (position_or_len p xs) (length xs))) [
        | inl h ↦ list_any_position xs ∙ rw h (sym (some_within xs (position_or_len p xs) (ltb-true _ _ h)))
        | inr h ↦ list_any_position xs ∙ rw h refl
      ]
    where
      some_within : (ys : List X) (i : ℕ) → i < length ys → is_some (slice_get ys i) ≡ true
      some_within [] i l = absurd (omega arith)
      some_within (y ∷ ys) zero l = refl
      some_within (y ∷ ys) (suc i) l = some_within ys i (omega arith)

  pub position_none : (xs : List X) → list_any p xs ≡ false → position p xs ≡ None
  position_none xs e = by (position p xs) (is_some_position xs ∙ e)
    where
      by : (o : Option ℕ) → is_some o ≡ false → o ≡ None
      by None f = refl
      by (Some n) f = absurd (true≢false f)

  -- If the element at `j` passes and none before it does, `j` is the first index.
  pub position_at : (xs : List X) (j : ℕ) (x : X) → j < length xs → x ≡ get_or xs j x → p x ≡ true → position p (take j xs) ≡ None → position p xs ≡ Some j
  position_at xs j x lt e hit miss = first xs j lt (sym (ap p e) ∙ hit) (sym (is_some_position (take j xs)) ∙ ap is_some miss)
    where
      first : (ys : List X) (i : ℕ) → i < length ys → p (get_or ys i x) ≡ true → list_any p (take i ys) ≡ false → position p ys ≡ Some i
      first [] i l h m = absurd (omega arith)
      first (y ∷ ys) zero l h m = position-hit y ys h
      first (y ∷ ys) (suc i) l h m =
          elim (cases_Bool (p y)) [
            | inl e ↦ absurd (true≢false (sym (ap (λ b. b || list_any p (take i ys)) e) ∙ m))
            | inr e ↦ position-miss y ys e ∙ ap (option_map suc) (first ys i (omega arith) h (sym (ap (λ b. b || list_any p (take i ys)) e) ∙ m))
          ]

  -- An appended element that passes is the first if no other passes.
  pub position_appended : (xs : List X) (x : X) → position p xs ≡ None → p x ≡ true → position p (xs ++ x ∷ []) ≡ Some (length xs)
  position_appended xs x miss hit =
      position_at (xs ++ x ∷ []) (length xs) x (omega (arith, length-append xs (x ∷ []))) (sym (get_or-append_seam xs x [] x)) hit
      (ap (position p) (take_at xs (x ∷ []) (length xs) refl) ∙ miss)

  -- The index in a longer list, from that in its rest.
  pub later : (b : Bool) (found after : Option ℕ) (i : ℕ) → ((j : ℕ) → found ≡ Some j → suc j ≡ i → after ≡ Some j) → cond b (Some 0) (option_map suc found) ≡ Some i → cond b (Some 0) (option_map suc after) ≡ Some i
  later true found after i rest h = h
  later false None after i rest h = absurd (none-some i h)
  later false (Some j) after i rest h = ap (option_map suc) (rest j refl (let next : suc j ≡ i = cc in next)) ∙ h

  -- The first match stays where it is if other items follow.
  pub position_front : (ys s : List X) (i : ℕ) → position p s ≡ Some i → position p (s ++ ys) ≡ Some i
  position_front ys [] i e = grind (arith, none-some, position_cons, later)
  position_front ys (x ∷ xs) i e = grind (arith, none-some, position_cons, later, (position_front ys xs))

  -- So does one among the items that are left.
  pub position_stays : (n : ℕ) (s : List X) (i : ℕ) → position p s ≡ Some i → i < n → position p (take n s) ≡ Some i
  position_stays n [] i e l = grind (arith, none-some, position_cons, later)
  position_stays zero (x ∷ xs) i e l = grind (arith, none-some, position_cons, later)
  position_stays (suc n) (x ∷ xs) i e l = grind (arith, none-some, position_cons, later, (position_stays n xs))

  -- So does one before an index up to which two lists are the same.
  pub position_before : (xs ys : List X) (n i : ℕ) → take n ys ≡ take n xs → i < n → position p xs ≡ Some i → position p ys ≡ Some i
  position_before xs ys n i same l e =
      ap (position p) (sym (take-append-drop n ys)) ∙ position_front (drop n ys) (take n ys) i (ap (position p) same ∙ position_stays n xs i e l)

  pub fails_everywhere : (xs : List X) (d : X) → position p xs ≡ None → (k : ℕ) → k < length xs → p (get_or xs k d) ≡ false
  fails_everywhere xs d e k lt = false_from_ne_true (p (get_or xs k d)) (λ h. true≢false (sym (list_any_at p xs k d lt h) ∙ list_any_position xs ∙ ap is_some e))

  -- If neither the first `j` elements nor the one at `j` pass, none of the first `k = j + 1` elements does.
  pub none_before_next : (xs : List X) (j k : ℕ) (x : X) → j < length xs → k ≡ j + 1 → x ≡ get_or xs j x → p x ≡ false → position p (take j xs) ≡ None → position p (take k xs) ≡ None
  none_before_next xs j k x within next e miss none = grind (arith, list_any_position, position_none, list_any_more)

  -- If one of the first `k` elements passes, one of all passes.
  pub list_any_front : (xs : List X) (k : ℕ) → list_any p (take k xs) ≡ true → list_any p xs ≡ true
  list_any_front [] zero e = grind (arith, cases_Bool)
  list_any_front [] (suc k) e = grind (arith, cases_Bool)
  list_any_front (x ∷ xs) zero e = grind (arith, cases_Bool)
  list_any_front (x ∷ xs) (suc k) e = grind (arith, cases_Bool, (list_any_front xs k))

-- An item that was appended is at the last index.
pub stored_last : {X : Type 0} (s r : List X) (x : X) → r ≡ s ++ x ∷ [] → slice_get r (length s) ≡ Some x
stored_last s r x e = ap (λ l. slice_get l (length s)) e ∙ slice_get_last s x

module _ {X Y : Type 0} (p : Y → Bool) (f : X → Y) where
  pub list_any_map : (xs : List X) → list_any p (map f xs) ≡ list_any (λ x. p (f x)) xs
  list_any_map [] = refl
  list_any_map (x ∷ xs) = ap (λ b. p (f x) || b) (list_any_map xs)

module _ {T : Type 0} (test : T → Bool) where
  -- The element at the index that a query finds matches the query.
  pub found_item_at : (s : List T) (found : Option ℕ) → found ≡ position test s → IfSome found (λ i. (x : T) × (slice_get s i ≡ Some x) × (test x ≡ true))
  found_item_at s None e = tt
  found_item_at [] (Some i) e = absurd (none-some i (sym e))
  found_item_at (x ∷ xs) (Some i) e =
      let at = position-Some test (x ∷ xs) i x (sym e) in
      (get_or (x ∷ xs) i x, slice_get-get_or (x ∷ xs) i x at.0, at.1)
