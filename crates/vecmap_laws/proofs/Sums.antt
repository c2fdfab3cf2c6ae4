-- The sum of the values after a change of one pair.
use Rattle.std.proofs.{Common.{◌≡◌, ◌+◌, ℕ, Bool, true, false, List, [], ◌∷◌, Some, arith, if◌then◌else◌, nat_eq, refl, sum}, lemmas.List.Sums.sum_by-cons}
use Rattle.std.specs.{List.sum_by, Map.values_of, Option.option_map_or, Prelude.unwrap_or}
use Rattle.vecmap_base.specs.Pairs.{lookup, lookup_by, put, without_by}

module _ {K V : Type 0} (g : V → ℕ) where
  -- After an insertion, `g` of the new value replaces that of the old one.
  pub sum_put : (eq : K → K → Bool) (l : List (K × V)) (k : K) (v : V) → sum_by g (values_of (put eq l k v)) + option_map_or g (lookup eq l k) 0 ≡ sum_by g (values_of l) + g v
  sum_put eq [] k v = let e : 0 + g v + 0 ≡ 0 + g v = omega arith in e
  sum_put eq (p ∷ ps) k v = by (eq k p.0) (sum_put eq ps k v)
    where
      by : (b : Bool) → sum_by g (values_of (put eq ps k v)) + option_map_or g (lookup eq ps k) 0 ≡ sum_by g (values_of ps) + g v → sum_by g (values_of (if b then (p.0, v) ∷ ps else p ∷ put eq ps k v)) + option_map_or g (if b then Some p.1 else lookup eq ps k) 0 ≡ sum_by g (values_of (p ∷ ps)) + g v
      by true h = omega (arith, sum_by-cons g v (values_of ps), sum_by-cons g p.1 (values_of ps))
      by false h = omega (arith, h, sum_by-cons g p.1 (values_of (put eq ps k v)), sum_by-cons g p.1 (values_of ps))

  -- After a removal, `g` of the old value is missing.
  pub sum_without : (test : K → Bool) (l : List (K × V)) → sum_by g (values_of (without_by test l)) + option_map_or g (lookup_by test l) 0 ≡ sum_by g (values_of l)
  sum_without test [] = refl
  sum_without test (p ∷ ps) = by (test p.0) (sum_without test ps)
    where
      by : (b : Bool) → sum_by g (values_of (without_by test ps)) + option_map_or g (lookup_by test ps) 0 ≡ sum_by g (values_of ps) → sum_by g (values_of (if b then ps else p ∷ without_by test ps)) + option_map_or g (if b then Some p.1 else lookup_by test ps) 0 ≡ sum_by g (values_of (p ∷ ps))
      by true h = omega (arith, sum_by-cons g p.1 (values_of ps))
      by false h = omega (arith, h, sum_by-cons g p.1 (values_of (without_by test ps)), sum_by-cons g p.1 (values_of ps))

-- The same of numbers.
pub sum_put_of_numbers : (l : List (ℕ × ℕ)) (k v : ℕ) → sum (values_of (put nat_eq l k v)) + unwrap_or (lookup nat_eq l k) 0 ≡ sum (values_of l) + v
sum_put_of_numbers = sum_put (λ x. x) nat_eq

pub sum_without_of_numbers : {K : Type 0} (test : K → Bool) (l : List (K × ℕ)) → sum (values_of (without_by test l)) + unwrap_or (lookup_by test l) 0 ≡ sum (values_of l)
sum_without_of_numbers = sum_without (λ x. x)
