-- Iterators that are seen as the list of what they have left: what calls of `next` and `next_back` return.
use Rattle.std.proofs.Common.{◌≡◌, ◌-◌, List, [], ◌∷◌, ◌++◌, Option, None, Some, ap, sym, drop, take, length, length-append, map, arith, refl}
use Rattle.std.specs.{Iterator.YieldsFirstBy, Iterator.YieldsLastBy, List.slice_get, Option.option_map}
use Rattle.vecmap_laws.specs.Pulls.{End, Pulls, PullsBy, back, front}
use Rattle.vecmap_base.proofs.IndexLemmas.{slice_get_last}

-- The first and the last item of a list, and what each leaves if it is removed.
module _ {T : Type 0} where
  first_of : (l t : List T) (x : T) → l ≡ x ∷ t → (slice_get l 0 ≡ Some x) × (drop 1 l ≡ t)
  first_of l t x e = rw e (refl, refl)

  take-last : (t : List T) (x : T) → take (length t) (t ++ x ∷ []) ≡ t
  take-last [] x = refl
  take-last (y ∷ t) x = ap (λ l. y ∷ l) (take-last t x)

  last_of : (l t : List T) (x : T) → l ≡ t ++ x ∷ [] → (slice_get l (length l - 1) ≡ Some x) × (take (length l - 1) l ≡ t)
  last_of l t x e =
      let n : length l - 1 ≡ length t = omega (arith, ap length e, length-append t (x ∷ [])) in
      rw (n, e) (slice_get_last t x, take-last t x)

-- An iterator that has `rest s` left in the state `s`. Its `next` gives the first item of that list, and its
-- `next_back` the last.
module _ {S A T : Type 0} (shows : A → T) (rest : S → List T) (next next_back : S → Option A → S → Type 0)
    (first : (s : S) (r : Option A) (t : S) → next s r t → YieldsFirstBy shows rest s r t)
    (last : (s : S) (r : Option A) (t : S) → next_back s r t → YieldsLastBy shows rest s r t) where
  -- One call of `next`.
  front_pull : (s t : S) (r : Option A) → YieldsFirstBy shows rest s r t → (option_map shows r ≡ slice_get (rest s) 0) × (rest t ≡ drop 1 (rest s))
  front_pull s t None h = rw (h.0, h.1) (refl, refl)
  front_pull s t (Some x) h = let e = first_of (rest s) (rest t) (shows x) h in (sym e.0, sym e.1)

  -- One call of `next_back`.
  back_pull : (s t : S) (r : Option A) → YieldsLastBy shows rest s r t → (option_map shows r ≡ slice_get (rest s) (length (rest s) - 1)) × (rest t ≡ take (length (rest s) - 1) (rest s))
  back_pull s t None h = rw (h.0, h.1) (refl, refl)
  back_pull s t (Some x) h = let e = last_of (rest s) (rest t) (shows x) h in (sym e.0, sym e.1)

  -- Any mixture of calls returns what the list has.
  pub pulls_by : (s : S) (ends : List End) (items : List (Option A)) (t : S) → PullsBy next next_back s ends items t → Pulls (rest s) ends (map (option_map shows) items) (rest t)
  pulls_by s [] items t h = grind (arith, front_pull, back_pull)
  pulls_by s (front ∷ ends) items t h = grind (arith, front_pull, back_pull, (pulls_by h.1 ends h.2 t h.5))
  pulls_by s (back ∷ ends) items t h = grind (arith, front_pull, back_pull, (pulls_by h.1 ends h.2 t h.5))
