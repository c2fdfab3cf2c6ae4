-- What the insertion of one pair leaves of a list of pairs, one record for each kind of insertion. The first field is the
-- whole list, and the others follow from it. `eq` is the `==` of keys, and a test is what a query does with a key.
use Rattle.std.specs.Prelude.{◌≡◌, ◌++◌, ◌∷◌, ◌+◌, ◌-◌, ◌<◌, ℕ, Bool, List, [], IsSome, None, Some, if◌then◌else◌, insert, is_some, length, min, slice_get, true, unwrap_or}
use Rattle.std.specs.Map.{keys_of}
use Rattle.vecmap_base.specs.{Lookups.UpdatesBy, Pairs.{HasDistinctKeys, index_by, index_of, index_or_length, lookup, put, put_at, put_key}}

-- Example: `AddsKey nat_eq [(1, a)] 2 b [(1, a), (2, b)]`; `AddsKey nat_eq [(1, a)] 1 b [(1, b)]`.
-- Example: `¬ (AddsKey nat_eq [(1, a)] 1 b [(1, a), (1, b)])`.
-- The list `m` is the list `l` after an insertion of `(k, v)`: the value of `k` is `v`, at its index, or the pair is new and last.
pub record AddsKey {K V : Type 0} (eq : K → K → Bool) (l : List (K × V)) (k : K) (v : V) (m : List (K × V)) : Type 0 where
  pub entries : m ≡ put eq l k v
  -- What lookups find: the value for the key, and for each other key what they found. Distinct keys stay distinct.
  pub updates : UpdatesBy eq (eq k) l m (Some v)
  -- Which keys the list has, and at which indices.
  pub index : index_of eq m k ≡ Some (index_or_length eq l k)
  pub indices : (test : K → Bool) (i : ℕ) → index_by test l ≡ Some i → index_by test m ≡ Some i
  pub keys : keys_of m ≡ (if is_some (lookup eq l k) then keys_of l else keys_of l ++ k ∷ [])
  pub len : length m ≡ (if is_some (lookup eq l k) then length l else length l + 1)
  -- What happens to a new key, to a present one, and to one whose value stays.
  pub appended : lookup eq l k ≡ None → m ≡ l ++ (k, v) ∷ []
  pub last : lookup eq l k ≡ None → index_of eq m k ≡ Some (length l)
  pub pair : lookup eq l k ≡ None → slice_get m (length l) ≡ Some (k, v)
  pub stay : IsSome (lookup eq l k) → (test : K → Bool) → index_by test m ≡ index_by test l
  pub same : (w : V) → IsSome (lookup eq l k) → v ≡ unwrap_or (lookup eq l k) w → m ≡ l

-- Example: `SetsKey nat_eq [(1, a)] 2 b [(1, a), (2, b)]`; `¬ (SetsKey nat_eq [(1, a)] 1 b [(1, a), (1, b)])`.
-- The same change, as an entry says it of each value: lengths and keys by cases, since a search tries each number as `v`.
pub record SetsKey {K V : Type 0} (eq : K → K → Bool) (l : List (K × V)) (k : K) (v : V) (m : List (K × V)) : Type 0 where
  pub entries : m ≡ put eq l k v
  -- What lookups find: the value for the key, and for each other key what they found. Distinct keys stay distinct.
  pub updates : UpdatesBy eq (eq k) l m (Some v)
  -- At which indices the keys are, and which there are, by whether `k` is one of them.
  pub index : index_of eq m k ≡ Some (index_or_length eq l k)
  pub indices : (test : K → Bool) (i : ℕ) → index_by test l ≡ Some i → index_by test m ≡ Some i
  pub kept : IsSome (lookup eq l k) → keys_of m ≡ keys_of l
  pub appended : lookup eq l k ≡ None → m ≡ l ++ (k, v) ∷ []
  pub last : lookup eq l k ≡ None → index_of eq m k ≡ Some (length l)
  pub pair : lookup eq l k ≡ None → slice_get m (length l) ≡ Some (k, v)
  pub stay : IsSome (lookup eq l k) → (test : K → Bool) → index_by test m ≡ index_by test l
  pub same : (w : V) → IsSome (lookup eq l k) → v ≡ unwrap_or (lookup eq l k) w → m ≡ l

-- Example: `PutsKey eq [(1x, a)] 1y b [(1y, b)]`; `¬ (PutsKey eq [(1x, a)] 1y b [(1x, a), (1y, b)])`.
-- The list `m` is the list `l` with `(k, v)` in place of the pair of an equal key, or at the end if there is none.
pub record PutsKey {K V : Type 0} (eq : K → K → Bool) (l : List (K × V)) (k : K) (v : V) (m : List (K × V)) : Type 0 where
  pub entries : m ≡ put_key eq l k v
  -- What lookups find: the value for the key, and for each other key what they found. Distinct keys stay distinct.
  pub updates : UpdatesBy eq (eq k) l m (Some v)
  -- Where the pair and the other keys are, and which keys the list has.
  pub pair : slice_get m (index_or_length eq l k) ≡ Some (k, v)
  pub index : index_of eq m k ≡ Some (index_or_length eq l k)
  pub indices : (q : K) (i : ℕ) → index_of eq l q ≡ Some i → index_of eq m q ≡ Some i
  pub appended : lookup eq l k ≡ None → m ≡ l ++ (k, v) ∷ []
  pub len : length m ≡ (if is_some (lookup eq l k) then length l else length l + 1)
  pub keys : ((q : K) → eq k q ≡ true → q ≡ k) → keys_of m ≡ (if is_some (lookup eq l k) then keys_of l else keys_of l ++ k ∷ [])

-- Example: `InsertsAt nat_eq 0 [(1, a)] 2 b [(2, b), (1, a)]`; `¬ (InsertsAt nat_eq 0 [(1, a)] 2 b [(1, a), (2, b)])`.
-- The list `m` is the list `l` without an equal key, and with `(k, v)` at the index `i`, or at the end if it is shorter.
pub record InsertsAt {K V : Type 0} (eq : K → K → Bool) (i : ℕ) (l : List (K × V)) (k : K) (v : V) (m : List (K × V)) : Type 0 where
  pub entries : m ≡ put_at eq l i k v
  -- What lookups find: the value for the key, and for each other key what they found. Distinct keys stay distinct.
  pub updates : HasDistinctKeys eq l → UpdatesBy eq (eq k) l m (Some v)
  -- Where the pair is, and which keys the list has.
  pub at : slice_get m (min i (length m - 1)) ≡ Some (k, v)
  pub index : lookup eq l k ≡ None → index_of eq m k ≡ Some i
  pub front : (j : ℕ) → lookup eq l k ≡ None → j < i → slice_get m j ≡ slice_get l j
  pub keys : lookup eq l k ≡ None → keys_of m ≡ insert (keys_of l) i k
  pub len : length m ≡ (if is_some (lookup eq l k) then length l else length l + 1)
