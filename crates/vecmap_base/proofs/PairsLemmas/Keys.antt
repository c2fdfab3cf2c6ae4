-- The keys of a list of pairs, as a list of elements. What changes the pairs changes the keys in the same way. First
-- come the definitions, for a list with one pair more.
use Rattle.std.specs.{Map.keys_of, Option.option_map}
use Rattle.std.proofs.Common.{◌≡◌, suc, Bool, List, ◌∷◌, Some, if◌then◌else◌, refl, arith, ℕ, [], ◌++◌, drop, insert, sym, take, ap, ◌∙◌}
use Rattle.std.proofs.lemmas.List.{drop-map, map-append, take-map}
use Rattle.vecmap_base.{specs.{Items.{add, adds, item_index}, Pairs.{index_of, put, puts}}, proofs.ItemsLemmas.Additions.{add_cons, item_index_cons}}

module _ {K V : Type 0} (eq : K → K → Bool) where
  pub index_of_cons : (p : K × V) (ps : List (K × V)) (k : K) → index_of eq (p ∷ ps) k ≡ (if eq k p.0 then Some 0 else option_map suc (index_of eq ps k))
  index_of_cons p ps k = refl

  pub put_cons : (p : K × V) (ps : List (K × V)) (k : K) (v : V) → put eq (p ∷ ps) k v ≡ (if eq k p.0 then (p.0, v) ∷ ps else p ∷ put eq ps k v)
  put_cons p ps k v = refl

module _ {K V : Type 0} where
  pub keys_of_insert : (l : List (K × V)) (i : ℕ) (k : K) (v : V) → keys_of (insert l i (k, v)) ≡ insert (keys_of l) i k
  keys_of_insert l i k v = map-append (λ p. p.0) (take i l) ((k, v) ∷ drop i l) ∙ sym (λ t. take-map (λ p. p.0) i l t ++ k ∷ drop-map (λ p. p.0) i l t)

module _ {K V : Type 0} (eq : K → K → Bool) where
  pub index_of_is : (l : List (K × V)) (k : K) → index_of eq l k ≡ item_index eq (keys_of l) k
  index_of_is [] k = refl
  index_of_is (p ∷ ps) k = index_of_cons eq p ps k ∙ ap (λ o. if eq k p.0 then Some 0 else option_map suc o) (index_of_is ps k) ∙ sym (item_index_cons eq p.0 (keys_of ps) k)

  pub keys_of_put : (l : List (K × V)) (k : K) (v : V) → keys_of (put eq l k v) ≡ add eq (keys_of l) k
  keys_of_put [] k v = grind (arith, put_cons, add_cons)
  keys_of_put (p ∷ ps) k v = grind (arith, put_cons, add_cons, (keys_of_put ps k v))

  pub keys_of_puts : (l ps : List (K × V)) → keys_of (puts eq l ps) ≡ adds eq (keys_of l) (keys_of ps)
  keys_of_puts l [] = refl
  keys_of_puts l (p ∷ ps) = keys_of_puts (put eq l p.0 p.1) ps ∙ ap (λ ks. adds eq ks (keys_of ps)) (keys_of_put l p.0 p.1)
