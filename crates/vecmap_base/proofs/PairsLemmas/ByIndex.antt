-- The definitions on pairs that are by recursion, by the index of the first key that passes a test, and whether there
-- is one.
use Rattle.std.specs.{List.list_any, Map.{set_value, keys_of}, Option.{option_map, option_map_or, option_and_then}}
use Rattle.std.proofs.Common.{arith, ◌≡◌, ℕ, suc, Bool, true, false, List, [], ◌∷◌, ◌++◌, Option, None, Some, if◌then◌else◌, refl, ap, ◌∙◌, sym, get_or, is_some, length, position, remove, set, slice_get, slice_set, swap_remove, true≢false, ◌<◌, ◌-◌, drop, take}
use Rattle.std.proofs.lemmas.{List.{drop-map, take_rest}, Map.Made.lookup-map_values, Option.slice_get-get_or}
use Rattle.vecmap_base.specs.Items.{swap_without}
use Rattle.vecmap_base.specs.Pairs.{index_by, index_of, lookup_by, lookup_pair_by, put, put_key, swap_without_by, value_at, with_pair, with_value, without_by, map_values}
use Rattle.vecmap_base.proofs.{IndexLemmas.{position_appended, position_cons, is_some_position, list_any_map}, PairsLemmas.Values.with_value_cons}

module _ {K V : Type 0} (test : K → Bool) where
  -- The index is the one of std's lists.
  pub index_by_is : (l : List (K × V)) → index_by test l ≡ position (λ p. test p.0) l
  index_by_is [] = refl
  index_by_is (p ∷ ps) = ap (λ o. if test p.0 then Some 0 else option_map suc o) (index_by_is ps) ∙ sym (position_cons (λ q. test q.0) p ps)

  -- The key of an appended pair is at the index after the others, if no other passes.
  pub index_by_appended : (l m : List (K × V)) (p : K × V) → m ≡ l ++ p ∷ [] → index_by test l ≡ None → test p.0 ≡ true → index_by test m ≡ Some (length l)
  index_by_appended l m p e miss hit = grind (arith, index_by_is, position_appended)

  -- A lookup finds the value at the index.
  pub lookup_by_index : (l : List (K × V)) → lookup_by test l ≡ option_and_then (value_at l) (index_by test l)
  lookup_by_index [] = grind (arith)
  lookup_by_index (p ∷ ps) = grind (arith, (lookup_by_index ps))

  -- A lookup finds a value exactly if a key has an index.
  pub is_some_lookup_by : (l : List (K × V)) → is_some (lookup_by test l) ≡ is_some (index_by test l)
  is_some_lookup_by [] = grind (arith)
  is_some_lookup_by (p ∷ ps) = grind (arith, (is_some_lookup_by ps))

  -- If a lookup finds nothing, no key has an index.
  pub index_by_none : (l : List (K × V)) → lookup_by test l ≡ None → index_by test l ≡ None
  index_by_none l e = by (index_by test l) (sym (is_some_lookup_by l) ∙ ap is_some e)
    where
      by : (o : Option ℕ) → is_some o ≡ false → o ≡ None
      by None f = refl
      by (Some i) f = absurd (true≢false f)

  -- A lookup of a pair finds the pair at the index.
  pub lookup_pair_by_index : (l : List (K × V)) → lookup_pair_by test l ≡ option_and_then (slice_get l) (index_by test l)
  lookup_pair_by_index [] = grind (arith)
  lookup_pair_by_index (p ∷ ps) = grind (arith, (lookup_pair_by_index ps))

  -- A lookup of a pair finds one exactly if a lookup finds a value.
  pub is_some_lookup_pair_by : (l : List (K × V)) → is_some (lookup_pair_by test l) ≡ is_some (lookup_by test l)
  is_some_lookup_pair_by [] = grind (arith)
  is_some_lookup_pair_by (p ∷ ps) = grind (arith, (is_some_lookup_pair_by ps))

  -- The value of the pair that is found.
  pub value_of_pair_by : (l : List (K × V)) → option_map (λ p. p.1) (lookup_pair_by test l) ≡ lookup_by test l
  value_of_pair_by [] = grind (arith)
  value_of_pair_by (p ∷ ps) = grind (arith, (value_of_pair_by ps))

  -- A removal is one at the index.
  pub without_by_index : (l : List (K × V)) → without_by test l ≡ option_map_or (λ i. remove l i) (index_by test l) l
  without_by_index [] = grind (arith)
  without_by_index (p ∷ ps) = grind (arith, (without_by_index ps))

  -- A write by std's word is one at the index.
  pub set_value_by_index : (l : List (K × V)) (v : V) → set_value test l v ≡ option_map_or (λ i. with_value l i v) (index_by test l) l
  set_value_by_index [] v = grind (arith, with_value_cons)
  set_value_by_index (p ∷ ps) v = grind (arith, with_value_cons, (set_value_by_index ps v))

module _ {K V : Type 0} (eq : K → K → Bool) where
  -- An insertion writes the value at the index, or appends the pair.
  pub put_by_index : (l : List (K × V)) (k : K) (v : V) → put eq l k v ≡ option_map_or (λ i. with_value l i v) (index_of eq l k) (l ++ (k, v) ∷ [])
  put_by_index [] k v = grind (arith, with_value_cons)
  put_by_index (p ∷ ps) k v = grind (arith, with_value_cons, (put_by_index ps k v))

  -- An insertion with the new key writes the pair at the index, or appends it.
  pub put_key_by_index : (l : List (K × V)) (k : K) (v : V) → put_key eq l k v ≡ option_map_or (λ i. with_pair l i k v) (index_of eq l k) (l ++ (k, v) ∷ [])
  put_key_by_index [] k v = grind (arith)
  put_key_by_index (p ∷ ps) k v = grind (arith, (put_key_by_index ps k v))

-- The same for a function that has found the index `i` and has read the pair `p` there.
module _ {K V : Type 0} (test : K → Bool) (l : List (K × V)) (i : ℕ) (p : K × V) (found : Some i ≡ index_by test l) (within : i < length l) (is : p ≡ get_or l i p) where
  pub pair_read : slice_get l i ≡ Some p
  pair_read = slice_get-get_or l i p within ∙ ap Some (sym is)

  pub pair_found : Some p ≡ lookup_pair_by test l
  pair_found = sym (lookup_pair_by_index test l ∙ ap (option_and_then (slice_get l)) (sym found) ∙ pair_read)

  pub value_found : Some p.1 ≡ lookup_by test l
  value_found = sym (lookup_by_index test l ∙ ap (option_and_then (value_at l)) (sym found) ∙ ap (option_map (λ q. q.1)) pair_read)

  pub swapped_out : swap_remove l i p ≡ swap_without_by test l
  swapped_out = sym (ap (λ o. option_map_or (λ j. swap_without l j) o l) (sym found) ∙ ap (λ o. option_map_or (λ q. swap_remove l i q) o l) pair_read)

module _ {K V : Type 0} (eq : K → K → Bool) (l : List (K × V)) (k : K) (v : V) (i : ℕ) (p : K × V) (found : Some i ≡ index_of eq l k) (within : i < length l) (is : p ≡ get_or l i p) where
  pub value_written : set l i (p.0, v) ≡ put eq l k v
  value_written = grind (arith, put_by_index, slice_set, pair_read)

-- The definitions by the index, for proofs of functions that find the index first.
pub ruleset by_index = (lookup_by_index, lookup_pair_by_index, without_by_index, set_value_by_index, put_by_index, put_key_by_index)

module _ {K V W : Type 0} (g : V → W) where
  -- In the list with `g` of each value, a lookup finds `g` of what it found before.
  pub lookup_by_map_values : (test : K → Bool) (l : List (K × V)) → lookup_by test (map_values g l) ≡ option_map g (lookup_by test l)
  lookup_by_map_values test l = lookup-map_values g test l

module _ {K V : Type 0} (eq : K → K → Bool) where
  pub is_some_index_of : (l : List (K × V)) (k : K) → is_some (index_of eq l k) ≡ list_any (eq k) (keys_of l)
  is_some_index_of l k = ap is_some (index_by_is (eq k) l) ∙ is_some_position (λ p. eq k p.0) l ∙ sym (list_any_map (eq k) (λ p. p.0) l)

  -- The rest of the list from `i` on has an index of `k` exactly if it has an equal key.
  pub is_some_index_of_rest : (l : List (K × V)) (i : ℕ) (k : K) → is_some (index_of eq (take (length l - i) (drop i l)) k) ≡ list_any (eq k) (drop i (keys_of l))
  is_some_index_of_rest l i k = ap (λ r. is_some (index_of eq r k)) (take_rest l i) ∙ is_some_index_of (drop i l) k ∙ ap (list_any (eq k)) (sym (drop-map (λ p. p.0) i l))
