-- What holds of each pair or each value, and which pairs a test selects, after a change of one pair.
use Rattle.std.specs.Map.{set_value}
use Rattle.std.proofs.Common.{◌≡◌, All, Bool, true, false, List, [], ◌∷◌, IfSome, Some, ap, arith, filter, if◌then◌else◌, refl, option_map, map, subst}
use Rattle.std.proofs.lemmas.{Grind.common_steps, List.Elements.{All-cons, All-head, All-tail, All-contains}}
use Rattle.vecmap_base.specs.Pairs.{lookup_by, map_values, without_by, lookup, put}
use Rattle.vecmap_base.proofs.PairsLemmas.{ByIndex.lookup_by_map_values, LookupsAfterChanges.pair_of_value}

module _ {K V : Type 0} (test : K → Bool) where
  -- What holds of each pair holds of each that a removal leaves.
  pub all_without : (P : K × V → Type 0) (l : List (K × V)) → All P l → All P (without_by test l)
  all_without P [] all = all
  all_without P (p ∷ ps) all = by (test p.0) (all_without P ps (All-tail P p ps all))
    where
      by : (b : Bool) → All P (without_by test ps) → All P (if b then ps else p ∷ without_by test ps)
      by true rest = All-tail P p ps all
      by false rest = All-cons P p (without_by test ps) (All-head P p ps all) rest

  -- The removal of a pair that is not selected leaves what is selected.
  pub filter_without : (pick : V → Bool) (l : List (K × V)) → IfSome (lookup_by test l) (λ v. pick v ≡ false) → filter (λ p. pick p.1) (without_by test l) ≡ filter (λ p. pick p.1) l
  filter_without pick [] h = refl
  filter_without pick (p ∷ ps) h = by (test p.0) h (filter_without pick ps)
    where
      left : List (K × V)
      left = filter (λ q. pick q.1) ps

      skip : (b : Bool) → b ≡ false → left ≡ (if b then p ∷ left else left)
      skip true e = absurd (cc)
      skip false e = refl

      keep : (b : Bool) → filter (λ q. pick q.1) (without_by test ps) ≡ left → (if b then p ∷ filter (λ q. pick q.1) (without_by test ps) else filter (λ q. pick q.1) (without_by test ps)) ≡ (if b then p ∷ left else left)
      keep true e = ap (λ m. p ∷ m) e
      keep false e = e

      by : (b : Bool) → IfSome (if b then Some p.1 else lookup_by test ps) (λ v. pick v ≡ false)
          → (IfSome (lookup_by test ps) (λ v. pick v ≡ false) → filter (λ q. pick q.1) (without_by test ps) ≡ left)
          → filter (λ q. pick q.1) (if b then ps else p ∷ without_by test ps) ≡ (if pick p.1 then p ∷ left else left)
      by true f rest = skip (pick p.1) f
      by false f rest = keep (pick p.1) (rest f)

  -- A write does not change what `g` tells of the values, if it tells the same of both.
  pub same_values : {W : Type 0} (g : V → W) (l : List (K × V)) (v : V) → option_map g (lookup_by test l) ≡ Some (g v) → map_values g (set_value test l v) ≡ map_values g l
  same_values g [] v e = refl
  same_values {W} g (p ∷ ps) v e = by (test p.0) e (same_values g ps v)
    where
      by : (b : Bool) → option_map g (if b then Some p.1 else lookup_by test ps) ≡ Some (g v) → (option_map g (lookup_by test ps) ≡ Some (g v) → map_values g (set_value test ps v) ≡ map_values g ps) → map_values g (if b then (p.0, v) ∷ ps else p ∷ set_value test ps v) ≡ map_values g (p ∷ ps)
      by true same rest = grind (arith, common_steps, same)
      by false same rest = ap (λ l. (p.0, g p.1) ∷ l) (rest same)

-- `f` of a key has the `==` of the key, as the bytes of a text have.
module _ {K L V W : Type 0} (eq : K → K → Bool) (eq_image : L → L → Bool) (f : K → L) (same : (x y : K) → eq_image (f x) (f y) ≡ eq x y) (g : V → W) where
  -- An insertion, seen in the list with `f` of each key and `g` of each value, inserts `f` of the key and `g` of the
  -- value.
  pub map_pairs_put : (l : List (K × V)) (k : K) (v : V) → map (λ p. (f p.0, g p.1)) (put eq l k v) ≡ put eq_image (map (λ p. (f p.0, g p.1)) l) (f k) (g v)
  map_pairs_put [] k v = grind (arith)
  map_pairs_put (p ∷ ps) k v = grind (arith, (map_pairs_put ps k v))

module _ {K V W : Type 0} (eq : K → K → Bool) (g : V → W) where
  -- In the list with `g` of each value, a lookup finds `g` of what it found before.
  pub lookup_map_values : (l : List (K × V)) (k : K) → lookup eq (map_values g l) k ≡ option_map g (lookup eq l k)
  lookup_map_values l k = lookup_by_map_values g (eq k) l

  -- An insertion, seen in the list with `g` of each value, inserts `g` of the value.
  pub map_values_put : (l : List (K × V)) (k : K) (v : V) → map_values g (put eq l k v) ≡ put eq (map_values g l) k (g v)
  map_values_put = map_pairs_put eq eq (λ k. k) (λ x y. refl) g

module _ {K V : Type 0} (eq : K → K → Bool) (P : V → Type 0) where
  -- What holds of each value holds of a value that is found.
  pub holds_of_found : (l : List (K × V)) → All (λ p. P p.1) l → (k : K) (v : V) → lookup eq l k ≡ Some v → P v
  holds_of_found l a k v e = let r = pair_of_value (eq k) l v e in subst P r.3 (All-contains (λ p. P p.1) l r.0 a r.1)

  -- What holds of each value still holds of each, if it holds of the value that is inserted.
  pub holds_after_put : (l : List (K × V)) → All (λ p. P p.1) l → (k : K) (v : V) → P v → All (λ p. P p.1) (put eq l k v)
  holds_after_put [] a k v h = All-cons (λ q. P q.1) (k, v) [] h a
  holds_after_put (p ∷ ps) a k v h =
      let rest : All (λ q. P q.1) ps = All-tail (λ q. P q.1) p ps a in
      by (eq k p.0) rest (holds_after_put ps rest k v h)
    where
      by : (b : Bool) → All (λ q. P q.1) ps → All (λ q. P q.1) (put eq ps k v) → All (λ q. P q.1) (if b then (p.0, v) ∷ ps else p ∷ put eq ps k v)
      by true r t = All-cons (λ q. P q.1) (p.0, v) ps h r
      by false r t = All-cons (λ q. P q.1) p (put eq ps k v) (All-head (λ q. P q.1) p ps a) t
