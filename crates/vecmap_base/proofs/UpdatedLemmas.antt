-- What is left of a list of pairs if a closure is called for each pair, in order, and writes the value, or if each
-- value is set to the same one.
use Rattle.std.specs.{Borrow.{Bor, MutBor}, Fn.Mut, Map.{keys_of, values_of}, Option.option_map, Prelude.{map, ⊤, Result}}
use Rattle.std.proofs.Common.{◌≡◌, List, [], ◌∷◌, arith, ap, ◌∙◌, ◌<◌, ℕ, zero, suc, All, Bool, None, Option, Some, IsSome, length, refl, subst, sym, true≢false}
use Rattle.std.proofs.lemmas.List.{map-append, Elements.{All-cons, All-nil}}
use Rattle.vecmap_base.specs.Pairs.{lookup_by, map_values, value_at}
use Rattle.vecmap_base.specs.Updated.{AlwaysComputes, Computes, Keeping, StoppedAt, Updated, UpdatesPairs, SetsValues}
use Rattle.vecmap_base.proofs.{KeptLemmas.{written_in_state, written_while}, PairsLemmas.{AtIndices.keeps_indices, ByIndex.lookup_by_map_values}}

module _ {F X : Type 0} (R : F → X → X → F → Type 0) where
  -- If the closure stays in its state, each item is what it writes in that state.
  pub computed : (f : F) (l m : List X) (g : F) → Updated R f l m g → (h : X → X) → Computes R f h → m ≡ map h l
  computed f l m g k h told = grind (arith, written_in_state)

  -- The same if its state may change, but not what it writes.
  pub computed_always : (f : F) (l m : List X) (g : F) → Updated R f l m g → (h : X → X) → AlwaysComputes R h → m ≡ map h l
  computed_always f l m g k h told =
      written_while (Keeping R) (λ z. ⊤) h (λ z x b y w holds call. (call.1, told z x y w call.0, tt)) f l m g tt k

module _ {F K V : Type 0} (R : F → K × V → K × V → F → Type 0) (same : (f : F) (p q : K × V) (g : F) → R f p q g → q.0 ≡ p.0) where
  -- A closure that does not write the key leaves the keys.
  pub keys_updated : (f : F) (l m : List (K × V)) (g : F) → Updated R f l m g → keys_of m ≡ keys_of l
  keys_updated f [] m g k = grind (arith)
  keys_updated f (p ∷ ps) m g k = grind (arith, (keys_updated k.2 ps k.3 g k.5))

  pub updates_pairs : (f : F) (l m : List (K × V)) → ((g : F) × Updated R f l m g) → UpdatesPairs R f l m
  updates_pairs f l m u = record {
    updated = u;
    written = computed R f l m u.0 u.1;
    written_in_any_state = computed_always R f l m u.0 u.1;
    lookups = λ h told test. ap (lookup_by test) (computed R f l m u.0 u.1 (λ p. (p.0, h p.1)) told) ∙ lookup_by_map_values h test l;
    keys = keeps_indices l m (keys_updated f l m u.0 u.1);
  }

module _ {F K V E : Type 0} (c : Mut F (Bor K × (MutBor V × Unit {0})) (Result (Unit {0}) E × (MutBor V × Unit {0}))) where
  -- The keys stay if a call fails.
  pub keys_stopped : (e : E) (f : F) (l m : List (K × V)) → StoppedAt c e f l m → keys_of m ≡ keys_of l
  keys_stopped e f l m s = grind (arith, keys_updated, map-append)

set_if_found : {V W : Type 0} (w : W) (found : Option V) → IsSome found → option_map (λ _. w) found ≡ Some w
set_if_found w None some = absurd (true≢false (sym some))
set_if_found w (Some v) some = refl

module _ {K V W : Type 0} (w : W) where
  keys_stay : (l : List (K × V)) → keys_of (map_values (λ _. w) l) ≡ keys_of l
  keys_stay [] = refl
  keys_stay (p ∷ ps) = ap (λ ks. p.0 ∷ ks) (keys_stay ps)

  all_values_set : (l : List (K × V)) → All (λ x. x ≡ w) (values_of (map_values (λ _. w) l))
  all_values_set [] = All-nil (λ x. x ≡ w)
  all_values_set (p ∷ ps) = All-cons (λ x. x ≡ w) w (values_of (map_values (λ _. w) ps)) refl (all_values_set ps)

  module _ (l : List (K × V)) (m : List (K × W)) (e : m ≡ map_values (λ _. w) l) where
    set_found : (test : K → Bool) → IsSome (lookup_by test l) → lookup_by test m ≡ Some w
    set_found test some = ap (lookup_by test) e ∙ lookup_by_map_values (λ _. w) test l ∙ set_if_found w (lookup_by test l) some

    values_set : All (λ x. x ≡ w) (values_of m)
    values_set = subst (λ n. All (λ x. x ≡ w) (values_of n)) (sym e) (all_values_set l)

module _ {K V : Type 0} (w : V) where
  set_at : (l : List (K × V)) (i : ℕ) → i < length l → value_at (map_values (λ _. w) l) i ≡ Some w
  set_at [] i h = absurd (omega arith)
  set_at (p ∷ ps) zero h = refl
  set_at (p ∷ ps) (suc i) h = set_at ps i (omega arith)

  -- The value is at each index.
  value_set_at : (l m : List (K × V)) → m ≡ map_values (λ _. w) l → (i : ℕ) → i < length l → value_at m i ≡ Some w
  value_set_at l m e i h = ap (λ n. value_at n i) e ∙ set_at l i h

pub sets_values : {K V : Type 0} (w : V) (l m : List (K × V)) → m ≡ map_values (λ _. w) l → SetsValues w l m
sets_values w l m e = record {
  entries = e;
  lookups = set_found w l m e;
  values = values_set w l m e;
  at = value_set_at w l m e;
  keys = keeps_indices l m (ap keys_of e ∙ keys_stay w l);
}
