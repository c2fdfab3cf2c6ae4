-- A list whose end a drain holds, in order or reversed, and what the drain returns and leaves, over any sequence of
-- calls of `next` and `next_back`.
use Rattle.std.specs.{Iterator.Runs.{YieldsInOrder, YieldsInReverse}, List.{remove_range, Sorted.IsPermutation}}
use Rattle.std.specs.Prelude.{◌≡◌, ℕ, zero, suc, ◌-◌, ◌<◌, ◌≤◌, Bool, true, false, List, [], ◌∷◌, ◌++◌, drop, length, not, reverse, refl, slice_range, take}
use Rattle.std.specs.Vec.Iter.{reverse_if}
use Rattle.std.proofs.Common.{sym, ap, ◌∙◌, append_assoc, arith, drop_at, length-append, length-drop, length-take, subst, take_at}
use Rattle.std.proofs.iter.runs.Sources.{as_is, as_is_back, from_back, from_front}
use Rattle.std.proofs.lemmas.List.{append-nil, drop_all, length-reverse, length_push, reverse-append, reverse-reverse, take-append-le, Edits.split_between}
use Rattle.std.proofs.lemmas.List.{Folds.drop_split, Sorted.{IsPermutation-append_comm, IsPermutation-append_right, IsPermutation-reverse, IsPermutation-trans}}
use Rattle.vecmap_base.specs.Drains.{DrainsFirst, DrainsLast, KeepsAlong}
use mathlib.Core.Bool.{beq}
use lib.ListN.{length-drop, length-take}

module _ {X : Type 0} where
  -- The range from `i` up to `j` was moved behind the others and reversed. The front holds the others, and the end the
  -- range.
  pub parts_of_moved : (xs zs : List X) (i j k : ℕ) → i ≤ j → j ≤ length xs → k ≡ length xs - (j - i) → zs ≡ remove_range xs i j ++ reverse (slice_range xs i j)
      → (reverse_if true (drop k zs) ≡ slice_range xs i j) × (take k zs ≡ remove_range xs i j)
  unfolding reverse_if
  parts_of_moved xs zs i j k order within keep moved = grind (arith, length-append, length-take, length-drop, drop_at, reverse-reverse, take_at)

  -- If the range from `i` up to `j` is the end of the list, the end holds the range, in order.
  pub part_at_end : (xs : List X) (i j : ℕ) → i ≤ j → length xs ≤ j → reverse_if false (drop i xs) ≡ slice_range xs i j
  unfolding reverse_if
  part_at_end xs i j order last = drop_split xs i j order ∙ ap (λ l. slice_range xs i j ++ l) (drop_all j xs last) ∙ append-nil (slice_range xs i j)

  -- The same move by two reversals, of the list from `i` on and of its part before `k`.
  pub moved_by_reversals : (xs ys zs : List X) (i j k : ℕ) → i ≤ j → j ≤ length xs → k ≡ length xs - (j - i) → ys ≡ take i xs ++ reverse (drop i xs) → zs ≡ (take i ys ++ reverse (slice_range ys i k)) ++ drop k ys
      → zs ≡ remove_range xs i j ++ reverse (slice_range xs i j)
  moved_by_reversals xs ys zs i j k order within keep first second =
      let front = take i xs in
      let go = slice_range xs i j in
      let back = drop j xs in
      let long : length front ≡ i = omega (arith, length-take i xs) in
      let behind : length (reverse back) ≡ k - i = omega (arith, length-reverse back, length-drop j xs) in
      let both : length (front ++ reverse back) ≡ k = omega (arith, length-append front (reverse back), long, behind) in
      let reversed : ys ≡ front ++ (reverse back ++ reverse go) = first ∙ ap (λ l. front ++ reverse l) (drop_split xs i j order) ∙ ap (λ l. front ++ l) (reverse-append go back) in
      let middle : slice_range ys i k ≡ reverse back =
      ap (λ l. take (k - i) (drop i l)) reversed ∙ ap (take (k - i)) (drop_at front (reverse back ++ reverse go) i long) ∙ take_at (reverse back) (reverse go) (k - i) behind in
      let end : drop k ys ≡ reverse go = ap (drop k) (reversed ∙ sym (append_assoc front (reverse back) (reverse go))) ∙ drop_at (front ++ reverse back) (reverse go) k both in
      let kept : take i ys ≡ front = ap (take i) reversed ∙ take_at front (reverse back ++ reverse go) i long in
      second ∙ (λ t. (kept t ++ reverse (middle t)) ++ end t) ∙ ap (λ l. (front ++ l) ++ reverse go) (reverse-reverse back)

  -- This move loses nothing.
  pub drained_rearranged : (xs : List X) (i j : ℕ) → i ≤ j → IsPermutation xs (remove_range xs i j ++ reverse (slice_range xs i j))
  drained_rearranged xs i j order =
      let front = take i xs in
      let go = slice_range xs i j in
      let back = drop j xs in
      let reversed = IsPermutation-append_right back go (reverse go) (IsPermutation-reverse go) in
      let moved = IsPermutation-trans (go ++ back) (back ++ go) (back ++ reverse go) (IsPermutation-append_comm go back) reversed in
      let whole = IsPermutation-append_right front (go ++ back) (back ++ reverse go) moved in
      subst (λ l. IsPermutation l (remove_range xs i j ++ reverse go)) (sym (split_between xs i j order)) (subst (IsPermutation (front ++ (go ++ back))) (sym (append_assoc front back (reverse go))) whole)

  drop_end : (ys : List X) (x : X) (k : ℕ) → k ≤ length ys → drop k (ys ++ x ∷ []) ≡ drop k ys ++ x ∷ []
  drop_end ys x zero le = refl
  drop_end [] x (suc k) le = absurd (omega arith)
  drop_end (y ∷ ys) x (suc k) le = drop_end ys x k (omega arith)

  -- If the end is reversed, the last item of `xs` is the first that the drain has still to return.
  pub first_pulled : (b : Bool) (xs ys : List X) (x : X) (k : ℕ) → b ≡ true → k < length xs → xs ≡ ys ++ x ∷ []
      → (reverse_if b (drop k xs) ≡ x ∷ reverse_if b (drop k ys)) × (take k ys ≡ take k xs)
  unfolding reverse_if
  first_pulled false xs ys x k ordered more e = grind (arith, length_push, drop_end, reverse-append, take-append-le)
  first_pulled true xs ys x k ordered more e = grind (arith, length_push, drop_end, reverse-append, take-append-le)

  -- If the end is not reversed, the last item of `xs` is the last that the drain has still to return.
  pub last_pulled : (b : Bool) (xs ys : List X) (x : X) (k : ℕ) → b ≡ false → k < length xs → xs ≡ ys ++ x ∷ []
      → (reverse_if b (drop k xs) ≡ reverse_if b (drop k ys) ++ x ∷ []) × (take k ys ≡ take k xs)
  unfolding reverse_if
  last_pulled true xs ys x k ordered more e = grind (arith, length_push, drop_end, take-append-le)
  last_pulled false xs ys x k ordered more e = grind (arith, length_push, drop_end, take-append-le)

  pub length_rest : (b : Bool) (xs : List X) (k : ℕ) → length (reverse_if b (drop k xs)) ≡ length xs - k
  unfolding reverse_if
  length_rest true xs k = length-reverse (drop k xs) ∙ length-drop k xs
  length_rest false xs k = length-drop k xs

  pub none_left : (b : Bool) (xs : List X) (k : ℕ) → length xs ≤ k → reverse_if b (drop k xs) ≡ []
  unfolding reverse_if
  none_left true xs k le = ap reverse (drop_all k xs le)
  none_left false xs k le = drop_all k xs le

  -- If the end is reversed and the flag is negated, the rest of the drain stays the same.
  pub end_reversed : (a b : Bool) (xs ys : List X) (k : ℕ) → not (beq a b) ≡ true → k ≤ length xs → ys ≡ take k xs ++ reverse (drop k xs)
      → (reverse_if b (drop k ys) ≡ reverse_if a (drop k xs)) × (take k ys ≡ take k xs)
  unfolding reverse_if
  end_reversed a b xs ys k apart le reversed = grind (arith, length-take, drop_at, take_at, reverse-reverse)

module _ {D A : Type 0} (rest : D → List A) (Keeps : D → D → Type 0) where
  -- Calls of `next` return the rest in order.
  pub drains_in_order : YieldsInOrder (DrainsFirst rest Keeps) rest
  drains_in_order p s = as_is p (rest p.from) (from_front (DrainsFirst rest Keeps) (λ y. y) rest (λ s t h. ap length h.0) (λ s x t h. h.0) p s)

  -- Calls of `next_back` return the rest in reverse.
  pub drains_in_reverse : YieldsInReverse (DrainsLast rest Keeps) rest
  drains_in_reverse p s = as_is_back p (rest p.from) (from_back (DrainsLast rest Keeps) (λ y. y) rest (λ s t h. ap length h.0) (λ s x t h. h.0) p s)

  module _ (same : (s : D) → Keeps s s) (on : (s t u : D) → Keeps s t → Keeps t u → Keeps s u) where
    -- What one call of `next` keeps, a sequence of them keeps.
    pub keeps_along : (s : D) → KeepsAlong (DrainsFirst rest Keeps) Keeps s
    keeps_along s [] t y = subst (Keeps s) y (same s)
    keeps_along s (x ∷ xs) t y = on s y.0 t y.1.1 (keeps_along y.0 xs t y.2)

    -- What one call of `next_back` keeps, a sequence of them keeps.
    pub keeps_along_back : (s : D) → KeepsAlong (DrainsLast rest Keeps) Keeps s
    keeps_along_back s [] t y = subst (Keeps s) y (same s)
    keeps_along_back s (x ∷ xs) t y = on s y.0 t y.1.1 (keeps_along_back y.0 xs t y.2)

-- The lemmas for the goals of the calls of a drain.
pub ruleset drains = (length_rest, none_left, part_at_end, parts_of_moved, end_reversed, first_pulled, last_pulled, keeps_along, keeps_along_back, length_push)
