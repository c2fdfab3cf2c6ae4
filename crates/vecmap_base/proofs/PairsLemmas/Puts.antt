-- What insertions make of a list, one at a time and many in order.
use Rattle.std.specs.Option.{option_and_then, option_map_or}
use Rattle.std.proofs.Common.{◌≡◌, ℕ, ◌+◌, Bool, List, [], ◌∷◌, ◌++◌, None, Option, Some, arith, length, refl, ◌<◌, ◌≤◌, take, ap, ◌∙◌, get_or, unwrap_or}
use Rattle.std.proofs.lemmas.List.Sums.{fold_more}
use Rattle.vecmap_base.specs.Pairs.{index_of, lookup, put, puts, value_at, with_value}
use Rattle.vecmap_base.proofs.{PairsLemmas.ByIndex.{lookup_by_index, put_by_index}, PairsLemmas.Values.with_own_value}

module _ {K V : Type 0} (eq : K → K → Bool) where
  pub put_absent : (l : List (K × V)) (k : K) (v : V) → index_of eq l k ≡ None → put eq l k v ≡ l ++ (k, v) ∷ []
  put_absent l k v e = put_by_index eq l k v ∙ ap (λ o. option_map_or (λ i. with_value l i v) o (l ++ (k, v) ∷ [])) e

  pub put_present : (l : List (K × V)) (k : K) (v : V) (i : ℕ) → index_of eq l k ≡ Some i → put eq l k v ≡ with_value l i v
  put_present l k v i e = put_by_index eq l k v ∙ ap (λ o. option_map_or (λ j. with_value l j v) o (l ++ (k, v) ∷ [])) e

  -- An insertion adds at most one pair.
  pub length_put_at_most : (l : List (K × V)) (k : K) (v : V) → length (put eq l k v) ≤ length l + 1
  length_put_at_most [] k v = grind (arith)
  length_put_at_most (p ∷ ps) k v = grind (arith, (length_put_at_most ps k v))

  -- Insertions add at most as many pairs.
  pub length_puts_at_most : (l ps : List (K × V)) → length (puts eq l ps) ≤ length l + length ps
  length_puts_at_most l [] = omega arith
  length_puts_at_most l (p ∷ ps) = omega (arith, length_puts_at_most (put eq l p.0 p.1) ps, length_put_at_most l p.0 p.1)

  -- No insertion removes a pair.
  length_put_at_least : (l : List (K × V)) (k : K) (v : V) → length l ≤ length (put eq l k v)
  length_put_at_least [] k v = grind (arith)
  length_put_at_least (p ∷ ps) k v = grind (arith, (length_put_at_least ps k v))

  -- After an insertion the list has a pair.
  pub put_some : (l : List (K × V)) (k : K) (v : V) → 0 < length (put eq l k v)
  put_some [] k v = omega arith
  put_some (p ∷ ps) k v = omega (arith, length_put_at_least (p ∷ ps) k v)

  -- After insertions the list is at least as long as before.
  pub length_puts_least : (l ps : List (K × V)) → length l ≤ length (puts eq l ps)
  length_puts_least l [] = omega arith
  length_puts_least l (p ∷ ps) = omega (arith, length_puts_least (put eq l p.0 p.1) ps, length_put_at_least l p.0 p.1)

  pub puts_not_empty : (l ps : List (K × V)) → 0 < length ps → 0 < length (puts eq l ps)
  puts_not_empty l [] h = absurd (omega (arith, h))
  puts_not_empty l (p ∷ ps) h = omega (arith, length_puts_least (put eq l p.0 p.1) ps, put_some l p.0 p.1)

  -- The insertion of the stored value, or of `v` if there is none, leaves the list or appends the pair.
  pub put_stored : (l : List (K × V)) (k : K) (v : V) → put eq l k (unwrap_or (lookup eq l k) v) ≡ option_map_or (λ i. l) (index_of eq l k) (l ++ (k, v) ∷ [])
  put_stored l k v =
      put_by_index eq l k (unwrap_or (lookup eq l k) v)
      ∙ ap (λ found. option_map_or (λ i. with_value l i (unwrap_or found v)) (index_of eq l k) (l ++ (k, unwrap_or found v) ∷ [])) (lookup_by_index (eq k) l) ∙ by (index_of eq l k)
    where
      by : (found : Option ℕ) → option_map_or (λ i. with_value l i (unwrap_or (option_and_then (value_at l) found) v)) found (l ++ (k, unwrap_or (option_and_then (value_at l) found) v) ∷ []) ≡ option_map_or (λ i. l) found (l ++ (k, v) ∷ [])
      by None = refl
      by (Some i) = with_own_value l i v

  -- The insertions of the first `i + 1` pairs are the insertions of the first `i` and one more.
  pub puts_more : (l : List (K × V)) (i : ℕ) (d : K × V) → i < length l → puts eq [] (take (i + 1) l) ≡ put eq (puts eq [] (take i l)) (get_or l i d).0 (get_or l i d).1
  puts_more l i d h = fold_more (λ done p. put eq done p.0 p.1) [] l i d h
