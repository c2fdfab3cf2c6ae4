-- One step of the loop that updates a list of items: `KeptSoFar` with all items kept.
use Rattle.std.specs.Prelude.{◌≡◌, ℕ, ◌+◌, ◌<◌, ◌≤◌, List, [], ◌∷◌, ◌++◌, drop, length, refl, take}
use Rattle.std.proofs.Common.{ap, append_assoc, arith, get_or, set, sym, ◌∙◌}
use Rattle.std.proofs.lemmas.List.{drop-set-lt, drop_more, get_or_default, length-set, take-append-drop, take_all, take_more_set}
use Rattle.vecmap_base.specs.{FnMutCalls.CallableOnEach, Kept.KeptSoFar, Updated.{Keeping, Updated}}
use Rattle.vecmap_base.proofs.{DuplicatesLemmas.Gather.rest_more, KeptLemmas.{callable_here, kept_all, kept_here}}

module _ {F X : Type 0} (R : F → X → X → F → Type 0) where
  module _ (f0 f : F) (xs ys : List X) (i : ℕ) (d : X) (so_far : KeptSoFar (Keeping R) f0 f xs ys i i) (l : i < length xs) where
    within : i < length ys
    within = omega (arith, l, so_far.len)

    at : get_or ys i d ≡ get_or ys i (get_or ys i d)
    at = get_or_default ys i d (get_or ys i d) within

    next_and_rest : (get_or ys i d ≡ get_or xs i d) × (drop (i + 1) ys ≡ drop (i + 1) xs)
    next_and_rest = rest_more xs ys i d l within so_far.rest

    -- The list around the next item.
    pub split : xs ≡ take i xs ++ get_or ys i d ∷ drop (i + 1) xs
    split = sym (take-append-drop i xs) ∙ ap (λ t. take i xs ++ t) (drop_more xs i d l) ∙ ap (λ x. take i xs ++ x ∷ drop (i + 1) xs) (sym next_and_rest.0)

    -- The closure may be called at the next item.
    pub callable_next : (Q : F → X → Type 0) → CallableOnEach (Keeping R) Q f0 xs → Q f (get_or ys i d)
    callable_next = callable_here (Keeping R) f0 f f xs ys i i (get_or ys i d) (get_or ys i d) so_far l at

    -- This call writes the item where it is.
    pub one_updated : (y : X) (h : F) → R f (get_or ys i d) y h → KeptSoFar (Keeping R) f0 h xs (set ys i y) (i + 1) (i + 1)
    one_updated y h call = kept_here (Keeping R) f0 f h xs ys i (get_or ys i d) y so_far l at refl (call, refl)

    -- The list with one item written.
    pub written_split : (y : X) → set ys i y ≡ take i ys ++ y ∷ drop (i + 1) xs
    written_split y =
        let zs = set ys i y in
        let m : i < length zs = let e = length-set ys i y in omega (arith, within, e) in
        sym (take-append-drop (i + 1) zs) ∙ (λ j. take_more_set ys i y within j ++ (drop-set-lt (i + 1) ys i y (omega arith) ∙ next_and_rest.1) j) ∙ append_assoc (take i ys) (y ∷ []) (drop (i + 1) xs)

  -- The closure was called for all items.
  pub all_updated : (f0 f : F) (xs ys : List X) (i : ℕ) → KeptSoFar (Keeping R) f0 f xs ys i i → length xs ≤ i → Updated R f0 xs ys f
  all_updated f0 f xs ys i so_far done = kept_all (Keeping R) f0 f xs ys i i ys so_far done (sym (take_all i ys (omega (arith, done, so_far.len))))
