-- A list of pairs is determined by its keys and its values, and a write of a value leaves the keys.
use Rattle.std.specs.{Map.keys_of, Map.values_of}
use Rattle.std.proofs.Common.{arith, ◌≡◌, ℕ, suc, List, [], ◌∷◌, length, refl, zero, ◌<◌, slice_set, unwrap_or, ap, ◌∙◌, get_or, set, sym}
use Rattle.std.proofs.lemmas.List.{get_or-map}
use Rattle.vecmap_base.specs.Pairs.{value_at, with_value}

module _ {K V : Type 0} where
  pub key_at : (l : List (K × V)) (i : ℕ) (p : K × V) (k : K) → i < length l → (get_or l i p).0 ≡ get_or (keys_of l) i k
  key_at l i p k h = sym (get_or-map (λ q. q.0) l i p k h)

  -- Two lists with the same keys and the same values are the same.
  pub same_pairs : (l m : List (K × V)) → keys_of l ≡ keys_of m → values_of l ≡ values_of m → l ≡ m
  same_pairs [] [] e f = grind (arith)
  same_pairs [] (q ∷ qs) e f = grind (arith)
  same_pairs (p ∷ ps) [] e f = grind (arith)
  same_pairs (p ∷ ps) (q ∷ qs) e f = grind (arith, (same_pairs ps qs (cc) (cc)))

  pub with_value_cons : (p : K × V) (ps : List (K × V)) (i : ℕ) (v : V) → with_value (p ∷ ps) (suc i) v ≡ p ∷ with_value ps i v
  with_value_cons p ps i v = grind (arith, slice_set)

  -- If the value at an index is written there again, nothing changes.
  pub with_own_value : (l : List (K × V)) (i : ℕ) (v : V) → with_value l i (unwrap_or (value_at l i) v) ≡ l
  with_own_value [] i v = refl
  with_own_value (p ∷ ps) zero v = refl
  with_own_value (p ∷ ps) (suc i) v = with_value_cons p ps i (unwrap_or (value_at ps i) v) ∙ ap (λ rest. p ∷ rest) (with_own_value ps i v)

  -- A write of a value leaves each key.
  pub keys_of_with_value : (l : List (K × V)) (i : ℕ) (v : V) → keys_of (with_value l i v) ≡ keys_of l
  keys_of_with_value [] i v = refl
  keys_of_with_value (p ∷ ps) zero v = refl
  keys_of_with_value (p ∷ ps) (suc i) v = ap keys_of (with_value_cons p ps i v) ∙ ap (λ ks. p.0 ∷ ks) (keys_of_with_value ps i v)

  pub key_stays : (l : List (K × V)) (i : ℕ) (p : K × V) (v : V) → keys_of (set l i ((get_or l i p).0, v)) ≡ keys_of l
  key_stays [] i p v = refl
  key_stays (q ∷ qs) zero p v = refl
  key_stays (q ∷ qs) (suc i) p v = ap (λ ks. q.0 ∷ ks) (key_stays qs i p v)

  pub values_of_with_value : (l : List (K × V)) (i : ℕ) (v : V) → values_of (with_value l i v) ≡ set (values_of l) i v
  values_of_with_value [] i v = refl
  values_of_with_value (p ∷ ps) zero v = refl
  values_of_with_value (p ∷ ps) (suc i) v = ap values_of (with_value_cons p ps i v) ∙ ap (λ vs. p.1 ∷ vs) (values_of_with_value ps i v)
