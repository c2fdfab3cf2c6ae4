-- What a closure leaves of a list of pairs: what lookups find, how many, which if it only tests them, and all if it
-- keeps all.
use Rattle.std.specs.{List.{AllByRecursion, IsDistinct}, Map.{IsKeyTest, keys_of}, Option.option_and_then}
use Rattle.std.proofs.Common.{arith, ◌≡◌, ◌∙◌, Bool, true, false, List, [], ◌∷◌, None, Option, Some, ap, cond, if◌then◌else◌, subst, sym, ◌≤◌, filter, length, not}
use Rattle.std.proofs.lemmas.{Bool.cases_Bool, Map.Keys.{IsDistinct-head, IsDistinct-tail}, Option.{none-some, same_Some}}
use Rattle.vecmap_base.specs.Kept.{FiltersValues, KeepsKeys, Kept, ReturnsAtKey, ReturnsAtValue, Retains, RetainsPairs, TestsItems}
use Rattle.vecmap_base.specs.Pairs.{HasDistinctKeys, lookup_by}

module _ {F K V : Type 0} (R : F → K × V → Bool → K × V → F → Type 0) (same : KeepsKeys R) where
  -- What holds of all keys holds of the keys that are kept.
  all_keys_kept : (P : K → Type 0) (f g : F) (l m : List (K × V)) → Kept R f l m g → AllByRecursion P (keys_of l) → AllByRecursion P (keys_of m)
  all_keys_kept P f g [] m k h = grind (arith)
  all_keys_kept P f g (p ∷ ps) m k h = grind (arith, (all_keys_kept P k.2 g ps k.3 k.5 h.1))

  -- Keys stay distinct among those that are kept.
  pub distinct_keys_kept : (eq : K → K → Bool) (f g : F) (l m : List (K × V)) → Kept R f l m g → HasDistinctKeys eq l → HasDistinctKeys eq m
  unfolding IsDistinct
  distinct_keys_kept eq f g [] m k d = subst (HasDistinctKeys eq) (sym k.0) tt
  distinct_keys_kept eq f g (p ∷ ps) m k d =
      let apart : AllByRecursion (λ z. eq k.1.0 z ≡ false) (keys_of k.3) =
      subst (λ y. AllByRecursion (λ z. eq y z ≡ false) (keys_of k.3)) (sym (same f p k.0 k.1 k.2 k.4)) (all_keys_kept (λ z. eq p.0 z ≡ false) k.2 g ps k.3 k.5 d.0) in
      subst (HasDistinctKeys eq) (sym k.6) (by k.0 apart (distinct_keys_kept eq k.2 g ps k.3 k.5 d.1))
    where
      by : (b : Bool) → AllByRecursion (λ z. eq k.1.0 z ≡ false) (keys_of k.3) → HasDistinctKeys eq k.3 → HasDistinctKeys eq (if b then k.1 ∷ k.3 else k.3)
      by true a r = (a, r)
      by false a r = r

  module _ (test : K → Bool) where
    none_found : (l : List (K × V)) → AllByRecursion (λ y. test y ≡ false) (keys_of l) → lookup_by test l ≡ None
    none_found [] h = λ _. None
    none_found (p ∷ ps) h = ap (λ b. cond b (Some p.1) (lookup_by test ps)) h.0 ∙ none_found ps h.1

    module _ (eq : K → K → Bool) (respects : IsKeyTest eq test) where
      -- If the keys are distinct, a query that matches the first matches none that is kept of the others.
      none_after : (p : K × V) (f g : F) (ps m : List (K × V)) → HasDistinctKeys eq (p ∷ ps) → test p.0 ≡ true → Kept R f ps m g → lookup_by test m ≡ None
      none_after p f g ps m d e k = none_found m (all_keys_kept (λ y. test y ≡ false) f g ps m k (others (keys_of ps) (IsDistinct-head eq p.0 (keys_of ps) d)))
        where
          others : (ks : List K) → AllByRecursion (λ y. eq p.0 y ≡ false) ks → AllByRecursion (λ y. test y ≡ false) ks
          others [] a = tt
          others (y ∷ ys) a = (respects p.0 y e ∙ a.0, others ys a.1)

      -- A query that found a value at which the closure returns `false` finds nothing.
      pub value_gone : (v : V) (f g : F) (l m : List (K × V)) → HasDistinctKeys eq l → ReturnsAtValue R f v false → Kept R f l m g → lookup_by test l ≡ Some v → lookup_by test m ≡ None
      value_gone v f g [] m d told k e = grind (arith, none-some)
      value_gone v f g (p ∷ ps) m d told k e =
          grind (arith, cases_Bool, same_Some, none-some, (none_after p k.2 g ps k.3 d), (value_gone v k.2 g ps k.3 (IsDistinct-tail eq p.0 (keys_of ps) d)))

      -- A query finds what `h` makes of the value that it found.
      pub lookup_by_filtered : (h : V → Option V) (f g : F) (l m : List (K × V)) → HasDistinctKeys eq l → FiltersValues R f h → Kept R f l m g → lookup_by test m ≡ option_and_then h (lookup_by test l)
      lookup_by_filtered h f g [] m d told k = grind (arith)
      lookup_by_filtered h f g (p ∷ ps) m d told k =
          grind (arith, cases_Bool, (none_after p k.2 g ps k.3 d), (lookup_by_filtered h k.2 g ps k.3 (IsDistinct-tail eq p.0 (keys_of ps) d)))

    -- If the closure returns the same at each key that a query matches, the query finds what it found, or nothing.
    pub lookup_by_returned : (kept : Bool) (f g : F) (l m : List (K × V)) → ReturnsAtKey R f test kept → Kept R f l m g → lookup_by test m ≡ (if kept then lookup_by test l else None)
    lookup_by_returned kept f g [] m told k = grind (arith, cases_Bool)
    lookup_by_returned kept f g (p ∷ ps) m told k = grind (arith, cases_Bool, (lookup_by_returned kept k.2 g ps k.3))

    -- A query that found a value at which the closure returns `true` finds it.
    pub value_stays : (v : V) (f g : F) (l m : List (K × V)) → ReturnsAtValue R f v true → Kept R f l m g → lookup_by test l ≡ Some v → lookup_by test m ≡ Some v
    value_stays v f g [] m told k e = grind (arith, none-some)
    value_stays v f g (p ∷ ps) m told k e = grind (arith, cases_Bool, same_Some, none-some, (value_stays v k.2 g ps k.3))

module _ {F X : Type 0} (R : F → X → Bool → X → F → Type 0) where
  pub length_kept : (f g : F) (l m : List X) → Kept R f l m g → length m ≤ length l
  length_kept f g [] m k = grind (arith)
  length_kept f g (x ∷ xs) m k = grind (arith, (length_kept k.2 g xs k.3 k.5))

  pub filter_kept : (keep : X → Bool) (f g : F) (l m : List X) → TestsItems R f keep → Kept R f l m g → m ≡ filter keep l
  filter_kept keep f g [] m told k = grind (arith)
  filter_kept keep f g (x ∷ xs) m told k = grind (arith, (filter_kept keep k.2 g xs k.3))

module _ {F K V : Type 0} (R : F → K × V → Bool → K × V → F → Type 0) (same : KeepsKeys R) where
  -- If all pairs are kept whose keys fail a test, and none passes it, nothing changes.
  all_pairs_kept : (test : K → Bool) (f g : F) (l m : List (K × V)) → ReturnsAtKey R f (λ k. not (test k)) true → Kept R f l m g → lookup_by test l ≡ None → m ≡ l
  all_pairs_kept test f g [] m told k none = grind (arith, cases_Bool, none-some)
  all_pairs_kept test f g (p ∷ ps) m told k none = grind (arith, cases_Bool, none-some, (all_pairs_kept test k.2 g ps k.3))

-- What the records of contracts say.
pub retains : {F K V : Type 0} (R : F → K × V → Bool → K × V → F → Type 0) (f : F) (l m : List (K × V)) → ((g : F) × Kept R f l m g) → Retains R f l m
retains R f l m kept = grind (arith, length_kept, filter_kept, all_pairs_kept)

pub retains_pairs : {F K V : Type 0} (R : F → K × V → Bool → K × V → F → Type 0) → KeepsKeys R → (f : F) (l m : List (K × V)) → ((g : F) × Kept R f l m g) → RetainsPairs R f l m
retains_pairs R same f l m kept = record {
  retained = kept;
  lookups = λ h told test eq d respects. lookup_by_filtered R same test eq respects h f kept.0 l m d told kept.1;
  selected = λ test stays told. lookup_by_returned R same test stays f kept.0 l m told kept.1;
  stays = λ test told. lookup_by_returned R same test true f kept.0 l m told kept.1;
  gone = λ test told. lookup_by_returned R same test false f kept.0 l m told kept.1;
  distinct = λ eq. distinct_keys_kept R same eq f kept.0 l m kept.1;
  left = retains R f l m kept;
}
