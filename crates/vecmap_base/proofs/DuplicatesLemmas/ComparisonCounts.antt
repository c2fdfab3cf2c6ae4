-- The number of comparisons that a removal of duplicates makes, and the most that a number of items may need.
use Rattle.std.specs.{Map.keys_of, Option.option_map_or, Set.is_member}
use Rattle.std.proofs.Common.{rules, ◌≡◌, ℕ, zero, suc, ◌+◌, ◌-◌, ◌*◌, ◌<◌, ◌≤◌, refl, arith, Bool, true, false, List, [], ◌∷◌, ◌++◌, None, Some, length, take, sym, ap, ◌∙◌, get_or}
use Rattle.std.proofs.lemmas.{Bool.cases_Bool, Grind.common_steps, List.{length-take, length_push, map-append, take_more, Quantifiers.position-Some}}
use Rattle.std.proofs.lemmas.Map.Entries.{length-keys_of}
use Rattle.vecmap_base.specs.{Comparisons.{cost, adds_cost, comparisons, search_cost}, Items.{add, adds, item_index}, Pairs.{index_of, puts}}
use Rattle.vecmap_base.proofs.{IndexLemmas.{position_at, position_none}, ItemsLemmas.Additions.{add_absent, add_present}}
use Rattle.vecmap_base.proofs.PairsLemmas.Keys.{index_of_is, keys_of_puts}

twice_more : (n : ℕ) → (n + 1) * n ≡ n * (n - 1) + 2 * n
twice_more zero = grind (arith)
twice_more (suc n) = grind (arith)

-- One more item is compared with each of the `n` before it.
pub cost_more : (n : ℕ) → cost (n + 1) ≡ cost n + n
cost_more n = grind (arith, twice_more)

cost_grows : (m n k : ℕ) → k ≡ m + n → cost m ≤ cost k
cost_grows m zero k e = grind (arith, cost_more)
cost_grows m (suc n) k e = grind (arith, cost_more, (cost_grows m n (m + n) refl))

-- After `m` of `n` items, the bound leaves enough comparisons for the next one.
pub cost_below : (m n : ℕ) → m < n → cost m + m ≤ cost n
cost_below m n lt = search (rules, cost_more, cost_grows)

module _ {T : Type 0} (eq : T → T → Bool) where
  pub search_cost_found : (s : List T) (x : T) (i : ℕ) → item_index eq s x ≡ Some i → search_cost eq s x ≡ i + 1
  search_cost_found s x i e = ap (λ o. option_map_or (λ j. j + 1) o (length s)) e

  pub search_cost_absent : (s : List T) (x : T) → is_member eq s x ≡ false → search_cost eq s x ≡ length s
  search_cost_absent s x e = ap (λ o. option_map_or (λ j. j + 1) o (length s)) (position_none (eq x) s e)

  -- The element at `i` is equal to `x`, and none before it is.
  pub search_cost_at : (s : List T) (x : T) (i : ℕ) (y : T) → i < length s → y ≡ get_or s i y → eq x y ≡ true → is_member eq (take i s) x ≡ false → search_cost eq s x ≡ i + 1
  search_cost_at s x i y l e hit miss = search_cost_found s x i (position_at (eq x) s i y l e hit (position_none (eq x) (take i s) miss))

  search_cost_at_most : (s : List T) (x : T) → search_cost eq s x ≤ length s
  search_cost_at_most s x = grind (arith, position-Some)

  -- One more addition.
  pub adds_cost_push : (s xs : List T) (x : T) → adds_cost eq s (xs ++ x ∷ []) ≡ adds_cost eq s xs + search_cost eq (adds eq s xs) x
  adds_cost_push s [] x = omega arith
  adds_cost_push s (y ∷ ys) x = omega (arith, adds_cost_push (add eq s y) ys x)

  pub comparisons_more : (xs : List T) (i : ℕ) (d : T) → i < length xs → comparisons eq (take (i + 1) xs) ≡ comparisons eq (take i xs) + search_cost eq (adds eq [] (take i xs)) (get_or xs i d)
  comparisons_more xs i d l = ap (comparisons eq) (take_more xs i d l) ∙ adds_cost_push [] (take i xs) (get_or xs i d)

  adds_cost_at_most : (s xs : List T) → adds_cost eq s xs + cost (length s) ≤ cost (length s + length xs)
  adds_cost_at_most s [] = grind (arith, cases_Bool, add_present, search_cost_at_most, cost_more, length_push, add_absent)
  adds_cost_at_most s (x ∷ xs) = grind (arith, cases_Bool, add_present, search_cost_at_most, cost_more, length_push, add_absent, (adds_cost_at_most s xs), (adds_cost_at_most (s ++ x ∷ []) xs))

  pub comparisons_at_most : (xs : List T) → comparisons eq xs ≤ cost (length xs)
  comparisons_at_most xs = grind (arith, adds_cost_at_most)

  -- The comparisons of the first `i` items, and at most `i` more for the next one.
  pub comparisons_below : (xs : List T) (i : ℕ) → i < length xs → comparisons eq (take i xs) + i ≤ cost (length xs)
  comparisons_below xs i l = grind (arith, length-take, comparisons_at_most, cost_below)

-- The same of the keys of pairs.
module _ {K V : Type 0} (eq : K → K → Bool) where
  pub key_search_found : (l : List (K × V)) (k : K) (i : ℕ) → index_of eq l k ≡ Some i → search_cost eq (keys_of l) k ≡ i + 1
  key_search_found l k i e = search_cost_found eq (keys_of l) k i (sym (index_of_is eq l k) ∙ e)

  pub key_search_absent : (l : List (K × V)) (k : K) → index_of eq l k ≡ None → search_cost eq (keys_of l) k ≡ length l
  key_search_absent l k e = ap (λ o. option_map_or (λ j. j + 1) o (length (keys_of l))) (sym (index_of_is eq l k) ∙ e) ∙ length-keys_of l

  pub key_comparisons_more : (l : List (K × V)) (i : ℕ) (d : K × V) → i < length l
      → comparisons eq (keys_of (take (i + 1) l)) ≡ comparisons eq (keys_of (take i l)) + search_cost eq (keys_of (puts eq [] (take i l))) (get_or l i d).0
  key_comparisons_more l i d h = grind (arith, common_steps, take_more, map-append, get_or, adds_cost_push, keys_of_puts)

  pub key_comparisons_at_most : (l : List (K × V)) → comparisons eq (keys_of l) ≤ cost (length l)
  key_comparisons_at_most l = grind (arith, length-keys_of, comparisons_at_most)

  pub key_comparisons_below : (l : List (K × V)) (i : ℕ) → i < length l → comparisons eq (keys_of (take i l)) + i ≤ cost (length l)
  key_comparisons_below l i h = grind (arith, length-take, key_comparisons_at_most, cost_below)
