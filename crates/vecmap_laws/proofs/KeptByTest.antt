-- What a closure leaves of a list if each call returns the result of a test and writes nothing, and what lookups find
-- in the pairs that pass a test.
use Rattle.std.specs.{Cmp.IsEquivalence, Option.option_and_then}
use Rattle.std.proofs.Common.{◌≡◌, Bool, List, [], ◌∷◌, filter, if◌then◌else◌, refl, ◌∙◌, true, false, None, Some, ap, sym}
use Rattle.std.proofs.lemmas.Map.Entries.{lookup-filter-keys}
use Rattle.vecmap_base.specs.{Kept.Kept, Pairs.{HasDistinctKeys, lookup}}
use Rattle.vecmap_laws.proofs.LookupLemmas.{head_has_no_value, rest_is_distinct, lookup_congr}

module _ {F X : Type 0} (R : F → X → Bool → X → F → Type 0) where
  -- `Holds` is an invariant of the closure's states: a call in a state where it holds leaves a state where it holds.
  module _ (Holds : F → Type 0) where
    -- If each such call returns the result of a test and writes nothing, the items that pass the test are kept.
    pub kept_while : (test : X → Bool) → ((f : F) (x : X) (b : Bool) (y : X) (g : F) → Holds f → R f x b y g → (b ≡ test x) × (y ≡ x) × Holds g) → (f : F) (xs m : List X) (g : F) → Holds f → Kept R f xs m g → m ≡ filter test xs
    kept_while test told f [] m g holds k = k.0
    kept_while test told f (x ∷ xs) m g holds k =
        let call = told f x k.0 k.1 k.2 holds k.4 in
        let rest = kept_while test told k.2 xs k.3 g call.2 k.5 in
        k.6 ∙ (λ i. if call.0 i then call.1 i ∷ rest i else rest i)

  -- A closure whose state changes, while its test stays the same.
  pub kept_by_states : (f g : F) (xs m : List X) (test : F → X → Bool) → ((z : F) (x : X) (b : Bool) (y : X) (w : F) → R z x b y w → (b ≡ test z x) × (y ≡ x) × ((u : X) → test w u ≡ test z u)) → Kept R f xs m g → m ≡ filter (test f) xs
  kept_by_states f g xs m test told k =
      kept_while (λ z. (u : X) → test z u ≡ test f u) (test f) (λ z x b y w same call. let r = told z x b y w call in (r.0 ∙ same x, r.1, λ u. r.2 u ∙ same u)) f xs m g (λ u. refl) k

module _ {K V : Type 0} (eq : K → K → Bool) (o : IsEquivalence eq) where
  -- A test of the keys.
  pub lookup_filter_keys : (test : K → Bool) → ((x y : K) → eq x y ≡ true → test x ≡ test y) → (l : List (K × V)) (q : K) → lookup eq (filter (λ p. test p.0) l) q ≡ (if test q then lookup eq l q else None)
  lookup_filter_keys test same l q = lookup-filter-keys (eq q) test (test q) (λ k e. sym (same q k e)) l

  -- A test of the pairs.
  pub lookup_filter : (test : K × V → Bool) → ((x y : K) (v : V) → eq x y ≡ true → test (x, v) ≡ test (y, v)) → (l : List (K × V)) → HasDistinctKeys eq l → (q : K) → lookup eq (filter test l) q ≡ option_and_then (λ v. if test (q, v) then Some v else None) (lookup eq l q)
  lookup_filter test same [] d q = refl
  lookup_filter test same (p ∷ ps) d q = by (eq q p.0) (test p) refl refl (lookup_filter test same ps (rest_is_distinct eq p ps d) q)
    where
      by : (b c : Bool) → eq q p.0 ≡ b → test p ≡ c → lookup eq (filter test ps) q ≡ option_and_then (λ v. if test (q, v) then Some v else None) (lookup eq ps q)
          → lookup eq (if c then p ∷ filter test ps else filter test ps) q ≡ option_and_then (λ v. if test (q, v) then Some v else None) (if b then Some p.1 else lookup eq ps q)
      by true true e f rest = ap (λ b. if b then Some p.1 else lookup eq (filter test ps) q) e ∙ sym (ap (λ b. if b then Some p.1 else None) (same q p.0 p.1 e ∙ f))
      by true false e f rest =
          let none : lookup eq ps q ≡ None = lookup_congr eq o ps q p.0 e ∙ head_has_no_value eq p ps d in
          rest ∙ ap (option_and_then (λ v. if test (q, v) then Some v else None)) none ∙ sym (ap (λ b. if b then Some p.1 else None) (same q p.0 p.1 e ∙ f))
      by false true e f rest = ap (λ b. if b then Some p.1 else lookup eq (filter test ps) q) e ∙ rest
      by false false e f rest = rest
