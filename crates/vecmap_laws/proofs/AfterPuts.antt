-- What is found, and at which index, after one insertion, after many, after a removal, with one pair more, and in the
-- front of a list.
use Rattle.std.specs.{Cmp.IsEquivalence, List.list_any, Map.keys_of, Option.{option_and_then, option_map_or, option_or}, Prelude.nat_lt}
use Rattle.std.proofs.Common.{Bool, List, None, Option, Some, [], ap, arith, false, if◌then◌else◌, option_map, position, suc, sym, take, zero, ℕ, ◌∙◌, ◌∷◌, ◌≡◌, is_some, length, length-append, refl, slice_get, true, true≢false, unwrap_or, ◌++◌, ◌+◌, ◌<◌}
use Rattle.std.proofs.lemmas.{List.length-map, Map.{lookup-remove_entry, Made.is_some-lookup}, Option.slice_get-map}
use Rattle.vecmap_base.specs.Pairs.{index_by, index_of, index_or_length, HasDistinctKeys, lookup, put, put_key, puts, value_at, with_value, without_key}
use Rattle.vecmap_base.proofs.IndexLemmas.{list_any_map, position_cons, position_none}
use Rattle.vecmap_base.proofs.PairsLemmas.ByIndex.{index_by_is, lookup_by_index, put_by_index, is_some_index_of}
use Rattle.vecmap_base.proofs.PairsLemmas.{Keys.{index_of_cons, index_of_is, keys_of_put}, LookupsAfterChanges.updates_put, ManyPairs.joins_of_puts}
use Rattle.vecmap_base.proofs.PairsLemmas.{Puts.{put_some, put_stored}, Updates.put_key_finds_as_put, Values.with_value_cons}
use Rattle.vecmap_laws.proofs.{ItemLemmas.{item_index_add, item_index_congr, item_index_own, without_item_absent}, OneMore.keys_of_without_key}

module _ {K V : Type 0} (p : K × V) (ps : List (K × V)) where
  module _ (eq : K → K → Bool) (k : K) where
    pub index_or_length_cons : index_or_length eq (p ∷ ps) k ≡ (if eq k p.0 then 0 else suc (index_or_length eq ps k))
    index_or_length_cons = grind (arith, index_of_cons)

module _ {K V : Type 0} (eq : K → K → Bool) where
  pub index_of_none : (l : List (K × V)) (k : K) → list_any (eq k) (keys_of l) ≡ false → index_of eq l k ≡ None
  index_of_none l k e = index_by_is (eq k) l ∙ position_none (λ p. eq k p.0) l (sym (list_any_map (eq k) (λ p. p.0) l) ∙ e)

-- The index `found`, if it is below `n`.
abbrev pub below : ℕ → Option ℕ → Option ℕ
below n found = option_and_then (λ i. if nat_lt i n then Some i else None) found

module _ {X : Type 0} (p : X → Bool) where
  -- In the first `n` items, the index stays if it is below `n`.
  pub position_take : (n : ℕ) (xs : List X) → position p (take n xs) ≡ below n (position p xs)
  position_take zero xs = grind (arith, position_cons, option_map)
  position_take (suc n) [] = grind (arith, position_cons, option_map)
  position_take (suc n) (x ∷ xs) = grind (arith, position_cons, option_map, (position_take n xs))

module _ {K V : Type 0} (test : K → Bool) where
  -- In the first `n` pairs, the index stays if it is below `n`.
  pub index_by_take : (n : ℕ) (l : List (K × V)) → index_by test (take n l) ≡ below n (index_by test l)
  index_by_take n l = index_by_is test (take n l) ∙ position_take (λ p. test p.0) n l ∙ ap (below n) (sym (index_by_is test l))

module _ {K V : Type 0} where
  -- A write of a value leaves the number of pairs.
  pub length_with_value : (l : List (K × V)) (i : ℕ) (v : V) → length (with_value l i v) ≡ length l
  length_with_value [] i v = refl
  length_with_value (p ∷ ps) zero v = refl
  length_with_value (p ∷ ps) (suc i) v = ap length (with_value_cons p ps i v) ∙ ap suc (length_with_value ps i v)

pub option_or_assoc : {X : Type 0} (a b c : Option X) → option_or (option_or a b) c ≡ option_or a (option_or b c)
option_or_assoc None b c = refl
option_or_assoc (Some x) b c = refl

module _ {K V : Type 0} (eq : K → K → Bool) where
  -- A lookup finds a value exactly if the key has an index.
  pub is_some_lookup : (l : List (K × V)) (k : K) → is_some (lookup eq l k) ≡ is_some (index_of eq l k)
  is_some_lookup l k = is_some-lookup (eq k) l ∙ sym (is_some_index_of eq l k)

  -- A lookup finds the value at the index of its key.
  pub lookup_at : (l : List (K × V)) (k : K) (i : ℕ) (q : K) (v : V) → index_of eq l k ≡ Some i → slice_get l i ≡ Some (q, v) → lookup eq l k ≡ Some v
  lookup_at l k i q v at stored = lookup_by_index (eq k) l ∙ ap (option_and_then (value_at l)) at ∙ ap (option_map (λ p. p.1)) stored

  -- The insertion of the value that is stored changes nothing.
  pub put_same : (l : List (K × V)) (k : K) (v : V) → lookup eq l k ≡ Some v → put eq l k v ≡ l
  put_same l k v e = ap (λ found. put eq l k (unwrap_or found v)) (sym e) ∙ put_stored eq l k v ∙ by (index_of eq l k) (sym (is_some_lookup l k) ∙ ap is_some e)
    where
      by : (found : Option ℕ) → is_some found ≡ true → option_map_or (λ i. l) found (l ++ (k, v) ∷ []) ≡ l
      by None h = absurd (true≢false (sym h))
      by (Some i) h = refl

  -- The insertion of a new key makes the list longer by one. Any other insertion leaves its length.
  pub length_put : (l : List (K × V)) (k : K) (v : V) → length (put eq l k v) ≡ (if is_some (index_of eq l k) then length l else length l + 1)
  length_put l k v = grind (arith, put_by_index, length-append, length_with_value)

  -- After insertions the list has a pair, if it had one before or one was inserted.
  pub puts_some : (l ps : List (K × V)) → 0 < length l + length ps → 0 < length (puts eq l ps)
  puts_some l [] h = omega (arith, h)
  puts_some l (p ∷ ps) h = puts_some (put eq l p.0 p.1) ps (omega (arith, put_some eq l p.0 p.1))

  module _ (o : IsEquivalence eq) where
    -- If all keys are distinct, each pair is found by its key, at its own index.
    pub index_of_own : (l : List (K × V)) → HasDistinctKeys eq l → (i : ℕ) (k : K) (v : V) → slice_get l i ≡ Some (k, v) → index_of eq l k ≡ Some i
    index_of_own l d i k v e = index_of_is eq l k ∙ item_index_own eq o (keys_of l) d i k (slice_get-map (λ p. p.0) l i ∙ ap (option_map (λ p. p.0)) e)

    pub lookup_own : (l : List (K × V)) → HasDistinctKeys eq l → (i : ℕ) (k : K) (v : V) → slice_get l i ≡ Some (k, v) → lookup eq l k ≡ Some v
    lookup_own l d i k v e = lookup_at l k i k v (index_of_own l d i k v e) e

    -- Equal keys have the same index.
    pub index_of_congr : (l : List (K × V)) (x y : K) → eq x y ≡ true → index_of eq l x ≡ index_of eq l y
    index_of_congr l x y e = index_of_is eq l x ∙ item_index_congr eq o (keys_of l) x y e ∙ sym (index_of_is eq l y)

    -- After an insertion, an existing key keeps its index, and a new one is last. Every other key keeps its index.
    pub index_of_put : (l : List (K × V)) (k : K) (v : V) (q : K) → index_of eq (put eq l k v) q ≡ (if eq k q then Some (index_or_length eq l k) else index_of eq l q)
    index_of_put l k v q = grind (arith, index_of_is, keys_of_put, item_index_add, length-map)

    -- The lookup of any key after an insertion.
    pub lookup_put_any : (l : List (K × V)) (k : K) (v : V) (q : K) → lookup eq (put eq l k v) q ≡ (if eq k q then Some v else lookup eq l q)
    lookup_put_any l k v q = (updates_put eq o l k v).lookups q

    -- A lookup after an insertion that stores the new key too finds the same value as after one that does not.
    pub lookup_put_key : (l : List (K × V)) (k : K) (v : V) (q : K) → lookup eq (put_key eq l k v) q ≡ lookup eq (put eq l k v) q
    lookup_put_key l k v q = put_key_finds_as_put eq o (eq q) (o.congr q) l k v

    -- The lookup of any key after a removal from a list of distinct keys.
    pub lookup_without_any : (l : List (K × V)) (k q : K) → HasDistinctKeys eq l → lookup eq (without_key eq l k) q ≡ (if eq k q then None else lookup eq l q)
    lookup_without_any l k q d = lookup-remove_entry o (eq k) (o.congr k) q l d

    -- After this removal, the key has no index.
    pub index_of_without_key : (l : List (K × V)) (k : K) → HasDistinctKeys eq l → index_of eq (without_key eq l k) k ≡ None
    index_of_without_key l k d = index_of_none eq (without_key eq l k) k (ap (λ ks. list_any (eq k) ks) (keys_of_without_key eq l k) ∙ without_item_absent eq o (keys_of l) k d)

    -- The values that the insertions make from the empty list take precedence over the values of `l`.
    pub lookup_puts : (l ps : List (K × V)) (q : K) → lookup eq (puts eq l ps) q ≡ option_or (lookup eq (puts eq [] ps) q) (lookup eq l q)
    lookup_puts l [] q = grind (arith, lookup_put_any, option_or_assoc)
    lookup_puts l (p ∷ ps) q = grind (arith, lookup_put_any, option_or_assoc, (lookup_puts (put eq l p.0 p.1) ps q), (lookup_puts (put eq [] p.0 p.1) ps q))

    -- If the keys of the inserted pairs are distinct, each inserted pair takes precedence over the pairs of `l`.
    pub lookup_puts_distinct : (l ps : List (K × V)) → HasDistinctKeys eq ps → (q : K) → lookup eq (puts eq l ps) q ≡ option_or (lookup eq ps q) (lookup eq l q)
    lookup_puts_distinct l ps = (joins_of_puts eq o l ps (puts eq l ps) refl).lookups
