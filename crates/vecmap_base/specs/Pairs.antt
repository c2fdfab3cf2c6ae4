-- Lists of pairs of a key and a value, as an ordered map sees them. `eq` is the `==` of keys. Lookups, insertions and
-- removals are by recursion, with the definitions of std where std has them. Only `lookup_indexed`, `put_at` and
-- `swap_without_by` go by the index of a key. In the examples, `1x` and `1y` are keys that `eq` calls equal, and are not
-- the same.
use Rattle.std.specs.Prelude.{ℕ, suc, ◌-◌, Bool, List, [], ◌∷◌, None, Option, Some, String, bytes_eq, if◌then◌else◌, fold, insert, length, map, min, remove, slice_get, slice_set, string_bytes, unwrap_or}
use Rattle.std.specs.{List.IsDistinct, Map.keys_of, Option.{option_and_then, option_map, option_map_or}}
use Rattle.std.specs.Map as entries
use Rattle.vecmap_base.specs.Items.{swap_without}

module _ {K V : Type 0} where
  -- Example: `with_value [(k, a)] 0 b ≡ [(k, b)]`.
  -- The list `l` with `v` as the value at the index `i`.
  abbrev pub with_value : List (K × V) → ℕ → V → List (K × V)
  with_value l i v = option_map_or (λ p. slice_set l i (p.0, v)) (slice_get l i) l

  -- Example: `with_pair [(j, a)] 0 k b ≡ [(k, b)]`.
  -- The list `l` with the pair `(k, v)` at the index `i`.
  abbrev pub with_pair : List (K × V) → ℕ → K → V → List (K × V)
  with_pair l i k v = slice_set l i (k, v)

  -- Example: `value_at [(j, a), (k, b)] 1 ≡ Some b`.
  -- The value at the index `i`, if there is one.
  abbrev pub value_at : List (K × V) → ℕ → Option V
  value_at l i = option_map (λ p. p.1) (slice_get l i)

-- Example: `map_values suc [(j, 1), (k, 2)] ≡ [(j, 2), (k, 3)]`.
-- The list `l` with `g` of each value.
abbrev pub map_values : {K V W : Type 0} → (V → W) → List (K × V) → List (K × W)
map_values g l = map (λ p. (p.0, g p.1)) l

module _ {K V : Type 0} (test : K → Bool) where
  -- Example: `index_by (nat_eq 2) [(1, a), (2, b)] ≡ Some 1`.
  -- The index of the first pair whose key passes the test.
  abbrev pub index_by : List (K × V) → Option ℕ
  index_by [] = None
  index_by (p ∷ ps) = if test p.0 then Some 0 else option_map suc (index_by ps)

  -- Example: `lookup_by (nat_eq 1) [(1, a), (2, b), (3, c)] ≡ Some a`.
  -- The value of the first pair whose key passes the test.
  abbrev pub lookup_by : List (K × V) → Option V
  lookup_by l = entries.lookup test l

  -- Example: `lookup_pair_by (nat_eq 1) [(1, a), (2, b), (3, c)] ≡ Some (1, a)`.
  -- The first pair whose key passes the test.
  abbrev pub lookup_pair_by : List (K × V) → Option (K × V)
  lookup_pair_by l = entries.lookup_entry test l

  -- Example: `without_by (nat_eq 1) [(1, a), (2, b), (3, c)] ≡ [(2, b), (3, c)]`.
  -- The list `l` without the first pair whose key passes the test.
  abbrev pub without_by : List (K × V) → List (K × V)
  without_by l = entries.remove_entry test l

  -- Example: `swap_without_by (nat_eq 1) [(1, a), (2, b), (3, c)] ≡ [(3, c), (2, b)]`.
  -- The list `l` without the first pair whose key passes the test; the last pair moves to its index.
  abbrev pub swap_without_by : List (K × V) → List (K × V)
  swap_without_by l = option_map_or (λ i. swap_without l i) (index_by l) l

module _ {K V : Type 0} (eq : K → K → Bool) where
  -- Example: `index_of nat_eq [(1, a), (2, b), (2, c)] 2 ≡ Some 1`.
  -- The index of the first pair whose key is equal to `k`.
  abbrev pub index_of : List (K × V) → K → Option ℕ
  index_of l k = index_by (eq k) l

  -- Example: `index_or_length nat_eq [(1, a), (2, b)] 3 ≡ 2`.
  -- The index of the first pair whose key is equal to `k`, or the length if there is none.
  abbrev pub index_or_length : List (K × V) → K → ℕ
  index_or_length l k = unwrap_or (index_of l k) (length l)

  -- Example: `lookup nat_eq [(1, a), (2, b), (2, c)] 2 ≡ Some b`.
  -- The value of the first pair whose key is equal to `k`.
  abbrev pub lookup : List (K × V) → K → Option V
  lookup l k = lookup_by (eq k) l

  -- Example: `lookup_pair eq [(1x, a)] 1y ≡ Some (1x, a)`.
  -- The first pair whose key is equal to `k`.
  abbrev pub lookup_pair : List (K × V) → K → Option (K × V)
  lookup_pair l k = lookup_pair_by (eq k) l

  -- Example: `lookup_indexed eq [(1x, a)] 1y ≡ Some (0, a)`.
  -- The index and the value of the first pair whose key is equal to `k`.
  abbrev pub lookup_indexed : List (K × V) → K → Option (ℕ × V)
  lookup_indexed l k = option_and_then (λ i. option_map (λ v. (i, v)) (value_at l i)) (index_of l k)

  -- Example: `put eq [(1x, a)] 1y b ≡ [(1x, b)]`; `put eq [(1x, a)] 2y b ≡ [(1x, a), (2y, b)]`.
  -- The list `l` after an insertion: an existing key keeps its index and gets the value, and a new pair is appended.
  abbrev pub put : List (K × V) → K → V → List (K × V)
  put [] k v = (k, v) ∷ []
  put (p ∷ ps) k v = if eq k p.0 then (p.0, v) ∷ ps else p ∷ put ps k v

  -- Example: `puts eq [] [(1x, a), (2x, b), (1y, c)] ≡ [(1x, c), (2x, b)]`.
  -- The list `l` after the insertion of each of the pairs, in order.
  abbrev pub puts : List (K × V) → List (K × V) → List (K × V)
  puts l pairs = fold (λ done p. put done p.0 p.1) l pairs

  -- Example: `put_key eq [(1x, a)] 1y b ≡ [(1y, b)]`.
  -- The list `l` after `(k, v)` has replaced the pair of an equal key, at its index, or was appended.
  abbrev pub put_key : List (K × V) → K → V → List (K × V)
  put_key [] k v = (k, v) ∷ []
  put_key (p ∷ ps) k v = if eq k p.0 then (k, v) ∷ ps else p ∷ put_key ps k v

  -- The pair of an equal key is removed first. If `i` is past the end of what is left, the new pair is appended.
  -- Example: `put_at eq [(1x, a), (2x, b), (3x, c)] 3 1y d ≡ [(2x, b), (3x, c), (1y, d)]`.
  -- The list `l` after an insertion of `(k, v)` at the index `i`.
  abbrev pub put_at : List (K × V) → ℕ → K → V → List (K × V)
  put_at l i k v = option_map_or (λ j. insert (remove l j) (min i (length l - 1)) (k, v)) (index_of l k) (insert l i (k, v))

  -- Example: `without_key nat_eq [(1, a), (2, b)] 1 ≡ [(2, b)]`.
  -- The list `l` without the first pair whose key is equal to `k`.
  abbrev pub without_key : List (K × V) → K → List (K × V)
  without_key l k = without_by (eq k) l

  -- Example: `swap_without_key nat_eq [(1, a), (2, b), (3, c)] 1 ≡ [(3, c), (2, b)]`.
  -- The list `l` without the first pair whose key is equal to `k`; the last pair moves to its index.
  abbrev pub swap_without_key : List (K × V) → K → List (K × V)
  swap_without_key l k = swap_without_by (eq k) l

  -- Example: `¬ (HasDistinctKeys eq [(1x, a), (1y, b)])`.
  -- No two indices hold equal keys.
  abbrev pub HasDistinctKeys : List (K × V) → Type 0
  HasDistinctKeys l = IsDistinct eq (keys_of l)

-- Example: true of the text `b` and the key `"b"`.
-- The key has these bytes.
abbrev pub has_text : {A : Type 0} → List ℕ → String A → Bool
has_text text key = bytes_eq text (string_bytes key)
