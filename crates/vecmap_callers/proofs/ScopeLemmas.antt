-- What names mean after the innermost scope is replaced. Idea: `resolved` is a fold whose last step reads the innermost
-- scope, so only that step changes.
use Rattle.std.specs.Prelude.{◌≡◌, ◌+◌, ◌-◌, ◌<◌, ℕ, Bool, true, false, List, [], ◌∷◌, None, Option, Some, if◌then◌else◌, fold, length}
use Rattle.std.{specs.{Prelude.{slice_set, take, refl}, Cmp.IsEquivalence, Option.option_or}, proofs.Common.{ap, arith, get_or, sym, ◌∙◌}}
use Rattle.std.proofs.{Math.Seq.take-length, lemmas.List.{length-set, take_more_set, Sums.{fold-append, fold_more}}}
use Rattle.vecmap.specs.{Contents.Contents, Pairs.{lookup, put}}
use Rattle.vecmap_laws.proofs.AfterPuts.{lookup_put_any}
use Rattle.vecmap_callers.specs.Scopes.{resolved}

module _ {X Y : Type 0} (f : Y → X → Y) (z : Y) (s : List X) (n : ℕ) where
  -- The last step of a fold applies `f` to the last item.
  fold_last : (d : X) → n + 1 ≡ length s → fold f z s ≡ f (fold f z (take n s)) (get_or s n d)
  fold_last d e = ap (fold f z) (sym (ap (λ m. take m s) e ∙ take-length s)) ∙ fold_more f z s n d (omega arith)

  -- If the last item is replaced by `m`, the last step applies `f` to `m`.
  fold_last_set : (m : X) → n + 1 ≡ length s → fold f z (slice_set s n m) ≡ f (fold f z (take n s)) m
  fold_last_set m e =
      let h : n < length s = omega arith in
      ap (fold f z) (sym (ap (λ k. take k (slice_set s n m)) (e ∙ sym (length-set s n m)) ∙ take-length (slice_set s n m)) ∙ take_more_set s n m h) ∙ fold-append f z (take n s) (m ∷ [])

module _ {K V : Type 0} (eq : K → K → Bool) (o : IsEquivalence eq) where
  -- After a name is defined in the innermost scope, names equal to it have the new value, and others mean what they
  -- meant.
  pub resolved_defined : (s : List (Contents K V)) (d m : Contents K V) (k : K) (v : V) (q : K) → 0 < length s → m.entries ≡ put eq (get_or s (length s - 1) d).entries k v → resolved eq (slice_set s (length s - 1) m) q ≡ (if eq k q then Some v else resolved eq s q)
  resolved_defined s d m k v q h e =
      let step = λ (found : Option V) (scope : Contents K V). option_or (lookup eq scope.entries q) found in
      let around = fold step None (take (length s - 1) s) in
      let last = (get_or s (length s - 1) d).entries in
      fold_last_set step None s (length s - 1) m (omega (arith, h))
      ∙ ap (λ l. option_or (lookup eq l q) around) e
      ∙ ap (λ found. option_or found around) (lookup_put_any eq o last k v q)
      ∙ by (eq k q) (lookup eq last q) around
      ∙ ap (λ x. if eq k q then Some v else x) (sym (fold_last step None s (length s - 1) d (omega (arith, h))))
    where
      by : (b : Bool) (mine around : Option V) → option_or (if b then Some v else mine) around ≡ (if b then Some v else option_or mine around)
      by true mine around = refl
      by false mine around = refl
