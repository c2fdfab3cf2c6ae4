-- Which keys a list of pairs has after a change, and at which indices. `eq` is the `==` of keys, and a test is what a
-- query does with a key.
use Rattle.std.specs.{Prelude.{◌≡◌, ◌-◌, ◌<◌, ℕ, Bool, List, Some, is_some, length, remove, slice_get, true}, Cmp.IsEquivalence}
use Rattle.std.specs.Map.{IsKeyTest, keys_of, values_of}
use Rattle.vecmap_base.specs.Pairs.{HasDistinctKeys, index_by, index_of, lookup, lookup_by, value_at}

module _ {K V : Type 0} where
  -- Example: the index 1 of `[(1,a), (2,b)]` and the query 2.
  -- At the index `i` of the list `l` is the pair that a query finds.
  abbrev pub HasMatchAt : (K → Bool) → List (K × V) → ℕ → Type 0
  HasMatchAt test l i = (k : K) × (v : V) × (slice_get l i ≡ Some (k, v)) × (test k ≡ true) × (lookup_by test l ≡ Some v)

  -- Example: `IsFoundAt 1 [(1, a), (2, b)] 2 b`; `¬ (IsFoundAt 1 [(1, a), (2, b)] 3 b)` by `present (nat_eq 3) refl`.
  -- The pair `(k, v)` at the index `i` of the list `l` has a key that is present, and is found if all keys are distinct.
  pub record IsFoundAt (i : ℕ) (l : List (K × V)) (k : K) (v : V) : Type 0 where
    pub present : (test : K → Bool) → test k ≡ true → is_some (lookup_by test l) ≡ true
    pub value : (eq : K → K → Bool) → IsEquivalence eq → HasDistinctKeys eq l → lookup eq l k ≡ Some v
    pub index : (eq : K → K → Bool) → IsEquivalence eq → HasDistinctKeys eq l → index_of eq l k ≡ Some i

  -- Example: `KeepsIndices [(1, a)] [(1, b)]`; `¬ (KeepsIndices [(1, a)] [(2, a)])`.
  -- The list `m` has the keys of `l`, each at its index.
  pub record KeepsIndices (l m : List (K × V)) : Type 0 where
    pub keys : keys_of m ≡ keys_of l
    -- What follows: the index of each match, how many pairs there are, and the value at the index of a match.
    pub indices : (test : K → Bool) → index_by test m ≡ index_by test l
    pub len : length m ≡ length l
    pub value : (test : K → Bool) (i : ℕ) → index_by test l ≡ Some i → value_at m i ≡ lookup_by test m

  -- Example: `ShiftsIndices 1 [(1, a), (2, b), (3, c)] [(1, a), (3, c)]`; `¬ (ShiftsIndices 1 [(1, a), (2, b)] [(2, b)])`.
  -- A match before the index `i` stays at its index, and one after it moves one index to the front.
  pub record ShiftsIndices (i : ℕ) (l m : List (K × V)) : Type 0 where
    -- The index of each match, by where it was.
    pub before : (test : K → Bool) (j : ℕ) → index_by test l ≡ Some j → j < i → index_by test m ≡ Some j
    pub after : (test : K → Bool) (j : ℕ) → index_by test l ≡ Some j → i < j → index_by test m ≡ Some (j - 1)
    -- The pairs in front, and the keys and the values, in order.
    pub front : (j : ℕ) → j < i → slice_get m j ≡ slice_get l j
    pub keys : keys_of m ≡ remove (keys_of l) i
    pub values : values_of m ≡ remove (values_of l) i

  -- Example: `MovesIndex 0 1 [(1, a), (2, b)] [(2, b), (1, a)]`; `¬ (MovesIndex 0 1 [(1, a), (2, b)] [(1, a), (2, b)])`.
  -- The pair at the index `i` of `l` is at the index `j` of `m`, and is found there if all keys are distinct.
  pub record MovesIndex (i j : ℕ) (l m : List (K × V)) : Type 0 where
    pub pair : slice_get m j ≡ slice_get l i
    pub key : (eq : K → K → Bool) → IsEquivalence eq → HasDistinctKeys eq l → (k : K) → index_of eq l k ≡ Some i → index_of eq m k ≡ Some j
    pub query : (eq : K → K → Bool) (test : K → Bool) → IsEquivalence eq → IsKeyTest eq test → HasDistinctKeys eq l → index_by test l ≡ Some i → index_by test m ≡ Some j
