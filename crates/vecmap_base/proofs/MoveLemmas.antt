-- A rotation by one of the part between two indices moves one item from one index to the other. Replacing each item of
-- the part by the one next to it does the same.
use Rattle.std.specs.{List.Sorted.IsPermutation, List.SwappedAt, Option.option_map_or}
use Rattle.std.proofs.Common.{◌≡◌, ℕ, zero, suc, ◌+◌, ◌-◌, ◌<◌, ◌≤◌, List, [], ◌∷◌, ◌++◌, ap, arith, append_assoc, drop, drop_at, get_or, insert, length, length-take-le, nat_eq, false, refl, remove, reverse, set, slice_get, swap, Some, subst, sym, take, take_at, true≢false, ◌∙◌}
use Rattle.std.proofs.{lemmas.Bool.eq-eqb, lemmas.List.Edits.{insert_end, length-remove, swap_is}, lemmas.Grind.get_or-set_at}
use Rattle.std.proofs.lemmas.List.{drop-set-lt, get_or-append_right, get_or-reverse, get_or-set_other, get_or-set_same, get_or_append_left, length-append, length-reverse, length-set, set-append_left, set_at, take-set-le, take_more}
use Rattle.std.proofs.lemmas.List.Sorted.{IsPermutation-insert, IsPermutation-remove, IsPermutation-trans}
use Rattle.std.proofs.lemmas.Option.{get_or_from_slice_get, slice_get-get_or}
use Rattle.vecmap_base.specs.Items.{moved}

-- A write at an index leaves the items at other indices.
read_after_set : {X : Type 0} (xs : List X) (i n : ℕ) (y : X) → (n ≡ i → ⊥) → slice_get (set xs i y) n ≡ slice_get xs n
read_after_set [] i n y h = refl
read_after_set (x ∷ xs) zero zero y h = absurd (h refl)
read_after_set (x ∷ xs) zero (suc n) y h = refl
read_after_set (x ∷ xs) (suc i) zero y h = refl
read_after_set (x ∷ xs) (suc i) (suc n) y h = read_after_set xs i n y (λ e. h (ap suc e))

-- The items before one that is inserted, or removed, stay.
pub front_inserted : {X : Type 0} (l : List X) (i j : ℕ) (x : X) → j < i → j < length l → slice_get (insert l i x) j ≡ slice_get l j
front_inserted l zero j x less within = absurd (omega arith)
front_inserted [] (suc i) j x less within = absurd (omega arith)
front_inserted (y ∷ ys) (suc i) zero x less within = refl
front_inserted (y ∷ ys) (suc i) (suc j) x less within = front_inserted ys i j x (omega arith) (omega arith)

pub front_removed : {X : Type 0} (l : List X) (i j : ℕ) → j < i → slice_get (remove l i) j ≡ slice_get l j
front_removed [] zero j h = refl
front_removed [] (suc i) j h = refl
front_removed (x ∷ xs) zero j h = absurd (omega arith)
front_removed (x ∷ xs) (suc i) zero h = refl
front_removed (x ∷ xs) (suc i) (suc j) h = front_removed xs i j (omega arith)

differ : (n i : ℕ) → nat_eq n i ≡ false → n ≡ i → ⊥
differ n i h e = true≢false (sym (eq-eqb n i e) ∙ h)

module _ {X : Type 0} where
  -- The list `xs` with its part of length `k` from the index `a` on rotated by `n` to the left.
  abbrev rotated : List X → ℕ → ℕ → ℕ → List X
  rotated xs a k n = take a xs ++ ((drop n (take k (drop a xs)) ++ take n (take k (drop a xs))) ++ drop k (drop a xs))

  -- The item at `from` moves to a later index.
  pub moved_up : (xs : List X) (from to k : ℕ) (d : X) → k + from ≡ to + 1 → from < to → to < length xs → rotated xs from k 1 ≡ insert (remove xs from) to (get_or xs from d)
  moved_up [] from to k d e above within = absurd (omega arith)
  moved_up (x ∷ xs) zero to k d e above within =
      let long : k ≡ suc to = omega arith in
      rw long (append_assoc (take to xs) (x ∷ []) (drop to xs))
  moved_up (x ∷ xs) (suc from) zero k d e above within = absurd (omega arith)
  moved_up (x ∷ xs) (suc from) (suc to) k d e above within =
      ap (λ l. x ∷ l) (moved_up xs from to k d (omega arith) (omega arith) (omega arith))

  -- The item at `from` moves to an earlier index.
  pub moved_down : (xs : List X) (from to k n : ℕ) (d : X) → k + to ≡ from + 1 → n + 1 ≡ k → to ≤ from → from < length xs → rotated xs to k n ≡ insert (remove xs from) to (get_or xs from d)
  moved_down [] from to k n d e f below within = absurd (omega arith)
  moved_down (x ∷ xs) from zero k n d e f below within =
      let long : k ≡ from + 1 = omega arith in
      let turn : n ≡ from = omega arith in
      let front = take from (x ∷ xs) in
      let item = get_or (x ∷ xs) from d in
      let size : length front ≡ from = length-take-le from (x ∷ xs) (omega arith) in
      let part : take k (x ∷ xs) ≡ front ++ item ∷ [] = ap (λ m. take m (x ∷ xs)) long ∙ take_more (x ∷ xs) from d within in
      rw (part, turn, drop_at front (item ∷ []) from size, take_at front (item ∷ []) from size, long) (ap (λ m. item ∷ (front ++ drop m (x ∷ xs))) (let next : from + 1 ≡ suc from = omega arith in next))
  moved_down (x ∷ xs) zero (suc to) k n d e f below within = absurd (omega arith)
  moved_down (x ∷ xs) (suc from) (suc to) k n d e f below within =
      ap (λ l. x ∷ l) (moved_down xs from to k n d (omega arith) f (omega arith) (omega arith))

  -- The item stays.
  pub not_moved : (xs : List X) (from to : ℕ) (d : X) → from ≡ to → from < length xs → xs ≡ insert (remove xs from) to (get_or xs from d)
  not_moved [] from to d e within = absurd (omega arith)
  not_moved (x ∷ xs) zero zero d e within = refl
  not_moved (x ∷ xs) zero (suc to) d e within = absurd (omega arith)
  not_moved (x ∷ xs) (suc from) zero d e within = absurd (omega arith)
  not_moved (x ∷ xs) (suc from) (suc to) d e within = ap (λ l. x ∷ l) (not_moved xs from to d (omega arith) (omega arith))

  -- If at most one item follows the item at `i`, it makes no difference whether the others shift or the last moves to
  -- its place.
  pub swap_removed_near_end : (xs : List X) (i last : ℕ) (d : X) → last + 1 ≡ length xs → i ≤ last → last ≤ i + 1 → take last (set xs i (get_or xs last d)) ≡ remove xs i
  swap_removed_near_end [] i last d e within near = grind (arith)
  swap_removed_near_end (x ∷ []) zero zero d e within near = grind (arith)
  swap_removed_near_end (x ∷ []) zero (suc last) d e within near = grind (arith)
  swap_removed_near_end (x ∷ y ∷ xs) zero zero d e within near = grind (arith)
  swap_removed_near_end (x ∷ y ∷ []) zero (suc zero) d e within near = grind (arith)
  swap_removed_near_end (x ∷ y ∷ []) zero (suc (suc last)) d e within near = grind (arith)
  swap_removed_near_end (x ∷ y ∷ z ∷ xs) zero (suc last) d e within near = grind (arith)
  swap_removed_near_end (x ∷ xs) (suc i) zero d e within near = grind (arith)
  swap_removed_near_end (x ∷ xs) (suc i) (suc last) d e within near = grind (arith, (swap_removed_near_end xs i last d (omega arith) (omega arith) (omega arith)))

  -- The item at `i` is replaced before it moves.
  pub replaced_and_moved : (xs : List X) (i to : ℕ) (x d : X) → i < length xs → insert (remove (set xs i x) i) to (get_or (set xs i x) i d) ≡ insert (remove xs i) to x
  replaced_and_moved xs i to x d within = grind (arith, take-set-le, drop-set-lt, get_or-set_same)

  -- An inserted item is removed.
  pub inserted_removed : (xs : List X) (i : ℕ) (x : X) → i ≤ length xs → remove (insert xs i x) i ≡ xs
  inserted_removed [] zero x within = refl
  inserted_removed [] (suc i) x within = absurd (omega arith)
  inserted_removed (y ∷ ys) zero x within = refl
  inserted_removed (y ∷ ys) (suc i) x within = ap (λ l. y ∷ l) (inserted_removed ys i x (omega arith))

  pub inserted_found : (xs : List X) (i : ℕ) (x : X) → i ≤ length xs → slice_get (insert xs i x) i ≡ Some x
  inserted_found [] zero x within = refl
  inserted_found [] (suc i) x within = absurd (omega arith)
  inserted_found (y ∷ ys) zero x within = refl
  inserted_found (y ∷ ys) (suc i) x within = inserted_found ys i x (omega arith)

  -- The list after the move of the item at `from`, in the word of contracts.
  pub moved_is : (xs ys : List X) (from to : ℕ) → from < length xs → ((d : X) → ys ≡ insert (remove xs from) to (get_or xs from d)) → ys ≡ moved xs from to
  moved_is [] ys from to within f = absurd (omega arith)
  moved_is (x ∷ xs) ys from to within f =
      f x ∙ sym (ap (λ o. option_map_or (λ y. insert (remove (x ∷ xs) from) to y) o (x ∷ xs)) (slice_get-get_or (x ∷ xs) from x within))

  -- It has the same items.
  pub moved_rearranged : (xs ys : List X) (from to : ℕ) → from < length xs → ((d : X) → ys ≡ insert (remove xs from) to (get_or xs from d)) → IsPermutation xs ys
  moved_rearranged [] ys from to within f = absurd (omega arith)
  moved_rearranged (x ∷ xs) ys from to within f =
      let item = get_or (x ∷ xs) from x in
      let rest = remove (x ∷ xs) from in
      let same : item ≡ get_or (x ∷ xs) from item = get_or_default (x ∷ xs) from within in
      subst (IsPermutation (x ∷ xs)) (sym (f x))
      (IsPermutation-trans (x ∷ xs) (item ∷ rest) (insert rest to item) (IsPermutation-remove (x ∷ xs) from item within same) (IsPermutation-insert rest to item))
    where
      get_or_default : (l : List X) (i : ℕ) → i < length l → get_or l i x ≡ get_or l i (get_or l i x)
      get_or_default l i within = sym (get_or_from_slice_get l i (get_or l i x) (get_or l i x) (slice_get-get_or l i x within))

  -- An item that has moved is removed from its new index, and found there.
  pub moved_removed : (xs ys : List X) (from to : ℕ) (x : X) → from < length xs → to < length xs → ys ≡ insert (remove xs from) to x → remove ys to ≡ remove xs from
  moved_removed xs ys from to x before after e = grind (arith, inserted_removed, length-remove)

  pub moved_found : (xs ys : List X) (from to : ℕ) (d : X) → from < length xs → to < length xs → ys ≡ insert (remove xs from) to (get_or xs from d) → slice_get ys to ≡ slice_get xs from
  moved_found xs ys from to d before after e = grind (arith, inserted_found, get_or, length-remove, slice_get-get_or)

  -- The items between `from` and `to` shift to the left, and `item` goes to `to`.
  remove_before : (xs : List X) (from to : ℕ) (item : X) → from ≤ to → to < length xs → remove (insert xs (suc to) item) from ≡ insert (remove xs from) to item
  remove_before [] from to item order within = absurd (omega arith)
  remove_before (z ∷ zs) zero to item order within = refl
  remove_before (z ∷ zs) (suc from) zero item order within = absurd (omega arith)
  remove_before (z ∷ zs) (suc from) (suc to) item order within = ap (λ l. z ∷ l) (remove_before zs from to item (omega arith) (omega arith))

  -- The items between `to` and `from` shift to the right, and `item` goes to `to`.
  remove_after : (xs : List X) (from to : ℕ) (item : X) → to ≤ from → from < length xs → remove (insert xs to item) (suc from) ≡ insert (remove xs from) to item
  remove_after [] from to item order within = absurd (omega arith)
  remove_after (z ∷ zs) from zero item order within = refl
  remove_after (z ∷ zs) zero (suc to) item order within = absurd (omega arith)
  remove_after (z ∷ zs) (suc from) (suc to) item order within = ap (λ l. z ∷ l) (remove_after zs from to item (omega arith) (omega arith))

  found_after : (xs : List X) (from to : ℕ) (item : X) → to ≤ from → from < length xs → slice_get (insert xs to item) (suc from) ≡ slice_get xs from
  found_after [] from to item order within = absurd (omega arith)
  found_after (z ∷ zs) from zero item order within = refl
  found_after (z ∷ zs) zero (suc to) item order within = absurd (omega arith)
  found_after (z ∷ zs) (suc from) (suc to) item order within = found_after zs from to item (omega arith) (omega arith)

  -- What the list is once each item from `to` down to `from` took the place before its own.
  pub carried_to : (xs ys : List X) (from to next : ℕ) (item x : X) → next ≡ suc to → from ≤ to → to < length xs → from ≤ length ys → insert ys from x ≡ insert xs next item → (ys ≡ insert (remove xs from) to item) × (slice_get xs from ≡ Some x)
  carried_to xs ys from to next item x after order within long e =
      let moved : insert ys from x ≡ insert xs (suc to) item = e ∙ ap (λ m. insert xs m item) after in (
        sym (inserted_removed ys from x long) ∙ ap (λ l. remove l from) moved ∙ remove_before xs from to item order within,
        sym (front_inserted xs (suc to) from item (omega (arith, order)) (omega (arith, order, within))) ∙ ap (λ l. slice_get l from) (sym moved) ∙ inserted_found ys from x long,
      )

  -- The same once each item from `to` up to `from` took the place after its own.
  pub carried_back_to : (xs ys : List X) (from to next : ℕ) (item x : X) → next ≡ suc from → to ≤ from → from < length xs → suc from ≤ length ys → insert ys next x ≡ insert xs to item → (ys ≡ insert (remove xs from) to item) × (slice_get xs from ≡ Some x)
  carried_back_to xs ys from to next item x after order within long e =
      let moved : insert ys (suc from) x ≡ insert xs to item = sym (ap (λ m. insert ys m x) after) ∙ e in (
        sym (inserted_removed ys (suc from) x long) ∙ ap (λ l. remove l (suc from)) moved ∙ remove_after xs from to item order within,
        sym (found_after xs from to item order within) ∙ ap (λ l. slice_get l (suc from)) (sym moved) ∙ inserted_found ys (suc from) x long,
      )

  -- The last item `last` of `xs` is taken, and each item from `i` on takes the place before its own.
  pub carried_over : (xs front ys : List X) (i end : ℕ) (last x : X) → xs ≡ front ++ last ∷ [] → end ≡ length front → i ≤ length ys → insert ys i x ≡ insert front end last → (ys ≡ remove xs i) × (slice_get xs i ≡ Some x)
  carried_over xs front ys i end last x taken at long e =
      let whole : insert ys i x ≡ xs = e ∙ rw (at) (insert_end front last) ∙ sym taken in (
        sym (inserted_removed ys i x long) ∙ ap (λ l. remove l i) whole,
        ap (λ l. slice_get l i) (sym whole) ∙ inserted_found ys i x long,
      )

  -- An item of the front and the first of the rest are exchanged.
  pub joined_swap : (front rest : List X) (low high : ℕ) (x y d e : X) → length front ≡ high → low < high → 0 < length rest → y ≡ get_or rest 0 e → x ≡ get_or front low d → set front low y ++ set rest 0 x ≡ swap (front ++ rest) low high
  joined_swap front [] low high x y d e long less more f b = absurd (omega arith)
  joined_swap front (w ∷ rest) low high x y d e long less more f b =
      let whole = front ++ w ∷ rest in
      let at_low : get_or whole low d ≡ x = get_or_append_left front (w ∷ rest) d low (omega (arith, long, less)) ∙ sym b in
      let at_high : get_or whole high d ≡ w = grind (arith, (get_or-append_right front (w ∷ rest) high high d)) in
      let within : high < length whole = grind (arith, long, length-append) in
      let both : set (set whole low w) high x ≡ set front low w ++ x ∷ rest =
      ap (λ l. set l high x) (set-append_left front (w ∷ rest) low w (omega (arith, long, less))) ∙ set_at (set front low w) w rest x high (length-set front low w ∙ long) in
      let swapped : set (set whole low w) high x ≡ swap whole low high = subst (λ v. set (set whole low v) high x ≡ swap whole low high) at_high (subst (λ v. set (set whole low (get_or whole high d)) high v ≡ swap whole low high) at_low (swap_is whole low high d (omega (arith, less, within)) within)) in
      rw (f) (sym both ∙ swapped)

  -- What a swap leaves at each index.
  pub swapped_at : (xs : List X) (i j : ℕ) → i < length xs → j < length xs → SwappedAt xs (swap xs i j) i j
  swapped_at xs i j within below = (
    λ d. ap (λ l. get_or l i d) (sym (swap_is xs i j d within below)) ∙ grind (arith, get_or-set_same, get_or-set_other, length-set),
    λ d. ap (λ l. get_or l j d) (sym (swap_is xs i j d within below)) ∙ grind (arith, get_or-set_same, get_or-set_other, length-set),
    λ k d. λ not_i. λ not_j. ap (λ l. get_or l k d) (sym (swap_is xs i j d within below)) ∙ grind (arith, get_or-set_same, get_or-set_other, length-set),
    λ d. sym (swap_is xs i j d within below),
  )

  -- Where a moved item is, in the word of contracts.
  pub moved_item : (xs ys : List X) (from to : ℕ) → ys ≡ moved xs from to → from < length xs → to < length xs → slice_get ys to ≡ slice_get xs from
  moved_item [] ys from to e within below = absurd (omega arith)
  moved_item (x ∷ xs) ys from to e within below =
      let at = slice_get-get_or (x ∷ xs) from x within in
      moved_found (x ∷ xs) ys from to x within below (e ∙ ap (λ o. option_map_or (λ y. insert (remove (x ∷ xs) from) to y) o (x ∷ xs)) at)

  -- Where two swapped items are.
  pub swapped_item : (xs ys : List X) (i j : ℕ) → ys ≡ swap xs i j → i < length xs → j < length xs → slice_get ys j ≡ slice_get xs i
  swapped_item [] ys i j e within below = absurd (omega arith)
  swapped_item (x ∷ xs) ys i j e within below =
      let once = set (x ∷ xs) i (get_or (x ∷ xs) j x) in
      let long : j < length once = subst (λ n. j < n) (sym (length-set (x ∷ xs) i (get_or (x ∷ xs) j x))) below in
      let twice = set once j (get_or (x ∷ xs) i x) in
      let longer : j < length twice = subst (λ n. j < n) (sym (length-set once j (get_or (x ∷ xs) i x))) long in
      ap (λ l. slice_get l j) (e ∙ sym (swap_is (x ∷ xs) i j x within below))
      ∙ slice_get-get_or twice j x longer ∙ ap Some (get_or-set_same once j (get_or (x ∷ xs) i x) x long) ∙ sym (slice_get-get_or (x ∷ xs) i x within)

  pub swapped_item_back : (xs ys : List X) (i j : ℕ) → ys ≡ swap xs i j → i < length xs → j < length xs → slice_get ys i ≡ slice_get xs j
  swapped_item_back [] ys i j e within below = absurd (omega arith)
  swapped_item_back (x ∷ xs) ys i j e within below =
      let once = set (x ∷ xs) i (get_or (x ∷ xs) j x) in
      let inside : i < length once = subst (λ n. i < n) (sym (length-set (x ∷ xs) i (get_or (x ∷ xs) j x))) within in
      let twice = set once j (get_or (x ∷ xs) i x) in
      let longer : i < length twice = subst (λ n. i < n) (sym (length-set once j (get_or (x ∷ xs) i x))) inside in
      let there : get_or twice i x ≡ get_or (x ∷ xs) j x = grind (arith, get_or-set_at, get_or-set_other) in
      ap (λ l. slice_get l i) (e ∙ sym (swap_is (x ∷ xs) i j x within below))
      ∙ slice_get-get_or twice i x longer ∙ ap Some there ∙ sym (slice_get-get_or (x ∷ xs) j x below)

  -- Two swapped items leave the others at their indices.
  pub swapped_other : (xs ys : List X) (i j n : ℕ) → ys ≡ swap xs i j → i < length xs → j < length xs → nat_eq n i ≡ false → nat_eq n j ≡ false → slice_get ys n ≡ slice_get xs n
  swapped_other [] ys i j n e within below h k = grind (arith, swap_is, read_after_set, differ)
  swapped_other (x ∷ xs) ys i j n e within below h k = grind (arith, swap_is, read_after_set, differ)

  -- A moved item leaves those before both indices at theirs.
  pub moved_other : (xs ys : List X) (from to n : ℕ) → ys ≡ moved xs from to → from < length xs → n < from → n < to → slice_get ys n ≡ slice_get xs n
  moved_other [] ys from to n e within h k = grind (arith, slice_get-get_or, front_inserted, get_or, length-remove, front_removed)
  moved_other (x ∷ xs) ys from to n e within h k = grind (arith, slice_get-get_or, front_inserted, get_or, length-remove, front_removed)

  -- In the reversed list, an item is as far from the end as it was from the start.
  pub at_reversed : (xs ys : List X) (i : ℕ) → ys ≡ reverse xs → i < length xs → slice_get ys (length xs - 1 - i) ≡ slice_get xs i
  at_reversed [] ys i e h = absurd (omega (arith, h))
  at_reversed (x ∷ xs) ys i e h =
      let s = x ∷ xs in
      let j = length s - 1 - i in
      let back : length s - 1 - j ≡ i = omega (arith, h) in
      let read : get_or (reverse s) j x ≡ get_or s i x = get_or-reverse s j x (omega (arith, h)) ∙ ap (λ n. get_or s n x) back in
      ap (λ l. slice_get l j) e ∙ slice_get-get_or (reverse s) j x (omega (arith, length-reverse s, h)) ∙ ap Some read ∙ sym (slice_get-get_or s i x h)
