-- A list from which a closure selects item by item. Its front has the items kept so far, and its rest is unchanged.
use Rattle.std.proofs.lemmas.Grind.{common_steps}
use Rattle.std.proofs.Common.{ap, arith, get_or, set, subst, sym, ◌∙◌}
use Rattle.std.specs.Prelude.{◌≡◌, ℕ, ◌+◌, ◌<◌, ◌≤◌, Bool, true, false, List, [], ◌∷◌, ◌++◌, drop, if◌then◌else◌, length, map, refl, take}
use Rattle.std.specs.List.{FoldsTo, SwappedAt}
use Rattle.std.proofs.lemmas.List.{drop-set-lt, drop_more, get_or-set_same, length-set, take-append-drop, take-set-le, take_all, take_more, take_more_set}
use Rattle.vecmap_base.specs.{FnMutCalls.{CallableOnEach, SomeCall}, Kept.{Kept, KeptSoFar, WritesItems}}
use Rattle.vecmap_base.proofs.DuplicatesLemmas.Gather.{front_swapped, rest_more}

module _ {X : Type 0} where
  -- A write at `i`, behind the front of `k` items, changes neither the front nor the rest after `i`.
  front_left : (ys : List X) (k i : ℕ) (y : X) → k ≤ i → (take k (set ys i y) ≡ take k ys) × (drop (i + 1) (set ys i y) ≡ drop (i + 1) ys)
  front_left ys k i y le = (take-set-le k ys i y le, drop-set-lt (i + 1) ys i y (omega arith))

  -- If the item that was written at `i` is then swapped with the item at `k`, it is appended to the front.
  front_more : (ys zs : List X) (k i : ℕ) (y : X) → k ≤ i → i < length ys → length zs ≡ length ys → SwappedAt (set ys i y) zs k i
      → (take (k + 1) zs ≡ take k ys ++ y ∷ []) × (drop (i + 1) zs ≡ drop (i + 1) ys)
  front_more ys zs k i y le l long s =
      let us = set ys i y in
      let m : length us ≡ length ys = length-set ys i y in
      let swapped = front_swapped us zs k i y le (omega arith) (long ∙ sym m) s in
      let left = front_left ys k i y le in
      let at : get_or us i y ≡ y = get_or-set_same ys i y y l in
      (swapped.0 ∙ (λ t. left.0 t ++ at t ∷ []), swapped.1 ∙ left.1)

module _ {F X : Type 0} (R : F → X → Bool → X → F → Type 0) where
  -- One call more.
  kept_push : (f : F) (xs m : List X) (g : F) (x : X) (b : Bool) (y : X) (h : F) → Kept R f xs m g → R g x b y h → Kept R f (xs ++ x ∷ []) (if b then m ++ y ∷ [] else m) h
  kept_push f [] m g x b y h k call = grind (arith)
  kept_push f (z ∷ zs) m g x b y h k call = grind (arith, (kept_push k.2 zs k.3 g x b y h k.5 call))

  folds_kept : (f : F) (xs m : List X) (g : F) → Kept R f xs m g → FoldsTo (SomeCall R) f xs g
  folds_kept f [] m g k = sym k.1
  folds_kept f (x ∷ xs) m g k = (k.2, (k.0, k.1, k.4), folds_kept k.2 xs k.3 g k.5)

  module _ (f0 f h : F) (xs ys : List X) (k i : ℕ) (p y : X) (so_far : KeptSoFar R f0 f xs ys k i) (l : i < length xs) (at : p ≡ get_or ys i p) where
    here : p ≡ get_or xs i p
    here = at ∙ (rest_more xs ys i p l (omega (arith, l, so_far.len)) so_far.rest).0

    -- The closure may be called at the next item.
    pub callable_here : (Q : F → X → Type 0) → CallableOnEach R Q f0 xs → Q f p
    callable_here Q each =
        let split : xs ≡ take i xs ++ get_or xs i p ∷ drop (i + 1) xs = sym (take-append-drop i xs) ∙ ap (λ t. take i xs ++ t) (drop_more xs i p l) in
        subst (Q f) (sym here) (each.at (take i xs) (drop (i + 1) xs) f (get_or xs i p) split (folds_kept f0 (take i xs) (take k ys) f so_far.run))

    run_more : (b : Bool) → R f p b y h → Kept R f0 (take (i + 1) xs) (if b then take k ys ++ y ∷ [] else take k ys) h
    run_more b call = grind (arith, common_steps, take_more, kept_push, get_or, here)

    -- If this call returns `true`, the item, as it was written, is appended to the front.
    pub kept_one : (zs : List X) {b : Bool} → b ≡ true → R f p b y h → length zs ≡ length ys → SwappedAt (set ys i y) zs k i → KeptSoFar R f0 h xs zs (k + 1) (i + 1)
    kept_one zs kept did long swapped =
        let front = front_more ys zs k i y so_far.bound (omega (arith, l, so_far.len)) long swapped in
        record {
          bound = omega (arith, so_far.bound);
          len = long ∙ so_far.len;
          rest = front.1 ∙ (rest_more xs ys i p l (omega (arith, l, so_far.len)) so_far.rest).1;
          run = subst (λ t. Kept R f0 (take (i + 1) xs) t h) (sym front.0) (run_more true (subst (λ b. R f p b y h) kept did));
        }

    -- If this call returns `false`, the front stays the same.
    pub kept_not : {b : Bool} → b ≡ false → R f p b y h → KeptSoFar R f0 h xs (set ys i y) k (i + 1)
    kept_not rejected did =
        let left = front_left ys k i y so_far.bound in
        record {
          bound = omega (arith, so_far.bound);
          len = length-set ys i y ∙ so_far.len;
          rest = left.1 ∙ (rest_more xs ys i p l (omega (arith, l, so_far.len)) so_far.rest).1;
          run = subst (λ t. Kept R f0 (take (i + 1) xs) t h) (sym left.0) (run_more false (subst (λ b. R f p b y h) rejected did));
        }

  -- If all items so far were kept, and this call returns `true`, this item is kept where it is.
  pub kept_here : (f0 f h : F) (xs ys : List X) (i : ℕ) (p y : X) → KeptSoFar R f0 f xs ys i i → i < length xs → p ≡ get_or ys i p → {b : Bool} → b ≡ true → R f p b y h → KeptSoFar R f0 h xs (set ys i y) (i + 1) (i + 1)
  kept_here f0 f h xs ys i p y so_far l at kept did =
      let long : i < length ys = omega (arith, l, so_far.len) in
      record {
        bound = omega arith;
        len = length-set ys i y ∙ so_far.len;
        rest = (front_left ys i i y so_far.bound).1 ∙ (rest_more xs ys i p l long so_far.rest).1;
        run = subst (λ t. Kept R f0 (take (i + 1) xs) t h) (sym (take_more_set ys i y long)) (run_more f0 f h xs ys i i p y so_far l at true (subst (λ b. R f p b y h) kept did));
      }

  -- Once the closure was called for all items, the kept ones are the front `m`.
  pub kept_all : (f0 f : F) (xs ys : List X) (k i : ℕ) (m : List X) → KeptSoFar R f0 f xs ys k i → length xs ≤ i → m ≡ take k ys → Kept R f0 xs m f
  kept_all f0 f xs ys k i m so_far done e = subst (λ t. Kept R f0 t m f) (take_all i xs done) (subst (λ t. Kept R f0 (take i xs) t f) (sym e) so_far.run)

  -- `Holds` is an invariant of the closure's states: a call in a state where it holds leaves a state where it holds.
  module _ (Holds : F → Type 0) where
    -- If each such call returns `true` and writes `h` of the item, `h` of each item is left.
    pub written_while : (h : X → X) → ((f : F) (x : X) (b : Bool) (y : X) (g : F) → Holds f → R f x b y g → (b ≡ true) × (y ≡ h x) × Holds g) → (f : F) (xs m : List X) (g : F) → Holds f → Kept R f xs m g → m ≡ map h xs
    written_while h told f [] m g holds k = grind (arith)
    written_while h told f (x ∷ xs) m g holds k = grind (arith, (written_while h told k.2 xs k.3 g))

  -- The same of a closure that writes each item.
  pub written_in_state : (f g : F) (xs m : List X) (h : X → X) → WritesItems R f h → Kept R f xs m g → m ≡ map h xs
  written_in_state f g xs m h told k =
      written_while (λ z. z ≡ f) h (λ z x b y w same call. let r = told x b y w (subst (λ v. R v x b y w) same call) in (r.0, r.1, r.2)) f xs m g refl k
