-- The definitions on elements and on pairs, for a list with one item more, and removals of pairs as those of items.
use Rattle.std.specs.{Map.keys_of, Option.option_map_or}
use Rattle.std.proofs.Common.{Bool, List, Some, [], ap, arith, if◌then◌else◌, refl, remove, ◌∙◌, ◌∷◌, ◌≡◌}
use Rattle.vecmap_base.specs.Items.{swap_without, swap_without_first, without_first, without_item}
use Rattle.vecmap_base.specs.Pairs.{lookup, swap_without_by, without_by, without_key}
use Rattle.vecmap_base.proofs.{IndexLemmas.position_cons, PairsLemmas.ByIndex.{index_by_is, without_by_index}}

module _ {T : Type 0} (test : T → Bool) where
  pub without_first_cons : (x : T) (xs : List T) → without_first test (x ∷ xs) ≡ (if test x then xs else x ∷ without_first test xs)
  without_first_cons x xs = grind (arith, position_cons)

module _ {T : Type 0} (eq : T → T → Bool) where
  pub without_item_cons : (y : T) (ys : List T) (x : T) → without_item eq (y ∷ ys) x ≡ (if eq x y then ys else y ∷ without_item eq ys x)
  without_item_cons y ys x = without_first_cons (eq x) y ys

module _ {K V : Type 0} (eq : K → K → Bool) where
  pub lookup_cons : (p : K × V) (ps : List (K × V)) (k : K) → lookup eq (p ∷ ps) k ≡ (if eq k p.0 then Some p.1 else lookup eq ps k)
  lookup_cons p ps k = refl

  pub without_key_cons : (p : K × V) (ps : List (K × V)) (k : K) → without_key eq (p ∷ ps) k ≡ (if eq k p.0 then ps else p ∷ without_key eq ps k)
  without_key_cons p ps k = refl

  pub keys_of_without_key : (l : List (K × V)) (k : K) → keys_of (without_key eq l k) ≡ without_item eq (keys_of l) k
  keys_of_without_key [] k = grind (arith, without_key_cons, without_item_cons)
  keys_of_without_key (p ∷ ps) k = grind (arith, without_key_cons, without_item_cons, (keys_of_without_key ps k))

module _ {K V : Type 0} (test : K → Bool) where
  -- A removal of a pair is that of the first item whose key passes the test.
  pub without_by_is : (l : List (K × V)) → without_by test l ≡ without_first (λ p. test p.0) l
  without_by_is l = without_by_index test l ∙ ap (λ found. option_map_or (λ i. remove l i) found l) (index_by_is test l)

  pub swap_without_by_is : (l : List (K × V)) → swap_without_by test l ≡ swap_without_first (λ p. test p.0) l
  swap_without_by_is l = ap (λ found. option_map_or (λ i. swap_without l i) found l) (index_by_is test l)
