-- What a contract sees of a `VecMap`, and what calls say of its capacity. In the examples, `map_of l n` is the map
-- with the pairs `l` and the capacity `n`, and `done` and `failed` are results of calls.
use Rattle.std.specs.Prelude.{◌≡◌, ◌++◌, ◌∷◌, [], ◌+◌, ◌<◌, ◌≤◌, ◌⊎◌, ℕ, Bool, IsOk, IsSome, List, None, OnErr, OnOk, Option, Result, Some, if◌then◌else◌, is_some, length, slice_get, unwrap_or}
use Rattle.std.specs.{List.refill, Map.set_value, Option.option_map_or}
use Rattle.vecmap_base.specs.{declared.refused.Refused.Refused, Indices.HasMatchAt, Lookups.UpdatesBy, Pairs.{index_by, index_of, lookup_by, with_pair, with_value}}

-- Example: `[(1,a)]` with capacity 4.
-- The pairs from the first to the last, and how many of them fit before the vector grows.
pub record Contents (K V : Type 0) : Type 0 where
  pub entries : List (K × V)
  pub capacity : ℕ

module _ {K V : Type 0} where
  -- Example: `with_entries (map_of [] 4) [(k, a)] ≡ map_of [(k, a)] 4`.
  -- The map m with other pairs.
  abbrev pub with_entries : Contents K V → List (K × V) → Contents K V
  with_entries m l = record { entries = l; capacity = m.capacity }

  -- Example: `with_written (map_of [(j, a), (k, b)] 4) [(j, c)] ≡ map_of [(j, c), (k, b)] 4`.
  -- The map m with the pairs l over its own, as many as it has.
  abbrev pub with_written : Contents K V → List (K × V) → Contents K V
  with_written m l = with_entries m (refill (length m.entries) m.entries l)

  -- Example: `with_value_at (map_of [(k, a)] 4) 0 b ≡ map_of [(k, b)] 4`.
  -- The map m with v as the value at the index i.
  abbrev pub with_value_at : Contents K V → ℕ → V → Contents K V
  with_value_at m i v = with_entries m (with_value m.entries i v)

  -- Example: `with_pair_at (map_of [(j, a)] 4) 0 (k, b) ≡ map_of [(k, b)] 4`.
  -- The map m with the pair p at the index i.
  abbrev pub with_pair_at : Contents K V → ℕ → K × V → Contents K V
  with_pair_at m i p = with_entries m (with_pair m.entries i p.0 p.1)

  -- Example: `with_pair_by (nat_eq 1) (map_of [(1, a)] 4) (2, b) ≡ map_of [(2, b)] 4`.
  -- The map m with the pair p instead of the first pair whose key passes the test, if there is one.
  abbrev pub with_pair_by : (K → Bool) → Contents K V → K × V → Contents K V
  with_pair_by test m p = option_map_or (λ i. with_pair_at m i p) (index_by test m.entries) m

  -- Example: `with_value_by (nat_eq 1) (map_of [(1, a)] 4) b ≡ map_of [(1, b)] 4`.
  -- The map m with v as the value of the first key that passes the test, if there is one.
  abbrev pub with_value_by : (K → Bool) → Contents K V → V → Contents K V
  with_value_by test m v = with_entries m (set_value test m.entries v)

  -- Example: `with_value_of eq (map_of [(1x, a)] 4) 1y b ≡ map_of [(1x, b)] 4`.
  -- The map m with v as the value of the first key that is equal to k, if there is one.
  abbrev pub with_value_of : (K → K → Bool) → Contents K V → K → V → Contents K V
  with_value_of eq m k v = with_value_by (eq k) m v

  -- Example: `HasRoom (map_of [(k, a)] 2) 1`; `¬ (HasRoom (map_of [(k, a)] 2) 2)`.
  -- Another n pairs fit before the vector grows.
  abbrev pub HasRoom : Contents K V → ℕ → Type 0
  HasRoom m n = length m.entries + n ≤ m.capacity

  -- Example: `IsFull (map_of [(k, a)] 1)`; `¬ (IsFull (map_of [(k, a)] 2))`.
  -- The map is full: no more pairs fit before the vector grows.
  abbrev pub IsFull : Contents K V → Type 0
  IsFull m = length m.entries ≡ m.capacity

  -- Example: `Reserves 1 (map_of [(k, a)] 1) done (map_of [(k, a)] 2)`.
  -- Example: `¬ (Reserves 1 (map_of [(k, a)] 1) done (map_of [] 2))`.
  -- Example: `¬ (Reserves 1 (map_of [(k, a)] 1) done (map_of [(k, a)] 1))`.
  -- Example: `¬ (Reserves 0 (map_of [(k, a)] 0) failed (map_of [(k, a)] 0))`.
  -- Example: `¬ (Reserves 1 (map_of [(k, a)] 2) failed (map_of [(k, a)] 2))`.
  -- Example: `¬ (Reserves 1 (map_of [(k, a)] 2) done (map_of [(k, a)] 4))`.
  -- Example: `¬ (Reserves 1 (map_of [(k, a)] 1) failed (map_of [(k, a)] 2))`.
  -- What a call that reserves capacity for `additional` more pairs returns and leaves.
  pub record Reserves {A E : Type 0} (additional : ℕ) (old : Contents K V) (result : Result A E) (new : Contents K V) : Type 0 where
    -- What stays, and how much fits afterwards.
    pub entries : new.entries ≡ old.entries
    pub room : OnOk result (HasRoom new additional)
    pub capacity : old.capacity ≤ new.capacity
    -- When the call succeeds, and what it leaves if it has nothing to do, or fails.
    pub some : OnErr result (0 < additional)
    pub succeeds : HasRoom old additional → IsOk result
    pub unchanged : HasRoom old additional → new ≡ old
    pub err : OnErr result (new ≡ old)

  -- Example: `KeepsRoomAt None (map_of [(j, a)] 1) (map_of [(j, a), (k, b)] 4)`.
  -- Example: `¬ (KeepsRoomAt None (map_of [(j, a)] 2) (map_of [(j, a), (k, b)] 4))`.
  -- Example: `¬ (KeepsRoomAt (Some 0) (map_of [(k, a)] 1) (map_of [(k, b)] 2))`.
  -- Example: `¬ (KeepsRoomAt None (map_of [(k, a)] 1) (map_of [(k, a)] 0))`.
  -- The capacity does not shrink, and stays if the key has an index or if there is spare capacity for one more pair.
  pub record KeepsRoomAt (index : Option ℕ) (old new : Contents K V) : Type 0 where
    pub capacity : old.capacity ≤ new.capacity
    pub present : IsSome index → new.capacity ≡ old.capacity
    pub spare : HasRoom old 1 → new.capacity ≡ old.capacity

  -- Example: `RefusesAt None (map_of [(k, a)] 1) (map_of [(k, a)] 1)`.
  -- Example: `¬ (RefusesAt None (map_of [(k, a)] 2) (map_of [(k, a)] 2))`.
  -- Example: `¬ (RefusesAt (Some 0) (map_of [(k, a)] 1) (map_of [(k, a)] 1))`.
  -- Example: `¬ (RefusesAt None (map_of [(k, a)] 1) (map_of [] 1))`.
  -- Memory ran out for a key: the map is unchanged, the key has no index, and the map is full.
  pub record RefusesAt (index : Option ℕ) (old new : Contents K V) : Type 0 where
    pub unchanged : new ≡ old
    pub absent : index ≡ None
    pub full : IsFull old

  -- Example: of a pair `(2,b)` on `[(1,a)]`: `[(1,a), (2,b)]`.
  -- A pair that was made was appended.
  abbrev pub Appends : (K × V → Type 0) → Contents K V → Contents K V → Type 0
  Appends made old new = (pair : K × V) × made pair × (new.entries ≡ old.entries ++ pair ∷ [])

  -- Example: of a made pair on a full `[]` for `AllocError`: that error.
  -- The map is full, and a `Refused` with a pair that was made became the error.
  abbrev pub FailsToAppend : {E : Type 0} → (Refused (K × V) → E → Type 0) → (K × V → Type 0) → Contents K V → E → Type 0
  FailsToAppend becomes made old error = (pair : K × V) × made pair × IsFull old × becomes (record { given = pair }) error

  -- Example: of a closure that fails with `AllocError`: the same map, and that error.
  -- A pair was to be made and appended, and that failed: the map is unchanged, no key matched, and `made` or memory failed.
  pub record FailsToInsert {E : Type 0} (becomes : Refused (K × V) → E → Type 0) (made : K × V → Type 0) (failed : E → Type 0) (index : Option ℕ) (old new : Contents K V) (error : E) : Type 0 where
    pub unchanged : new ≡ old
    pub absent : index ≡ None
    pub cause : failed error ⊎ FailsToAppend becomes made old error

  -- Example: `FindsOrAppends nat_eq (nat_eq 1) (copy (1, b)) (map_of [(1, a)] 1) (map_of [(1, a)] 1) 0`.
  -- Example: `¬ (FindsOrAppends nat_eq (nat_eq 2) (copy (2, b)) (map_of [(1, a)] 1) (map_of [(1, a)] 1) 0)`.
  -- A key that the test matches was present, and nothing has changed, or a pair that was made was appended. It is at `i`.
  pub record FindsOrAppends (eq : K → K → Bool) (test : K → Bool) (made : K × V → Type 0) (old new : Contents K V) (i : ℕ) : Type 0 where
    pub found : index_by test new.entries ≡ Some i
    pub within : i < length new.entries
    pub at : HasMatchAt test new.entries i
    -- What was present stays, and what is new is last.
    pub unchanged : IsSome (lookup_by test old.entries) → new ≡ old
    pub appended : index_by test old.entries ≡ None → Appends made old new
    -- What a new key has if its value, or its pair, is known.
    pub value : (v : V) → lookup_by test old.entries ≡ None → ((pair : K × V) → made pair → pair.1 ≡ v) → lookup_by test new.entries ≡ Some v
    pub pair : (p : K × V) → lookup_by test old.entries ≡ None → ((pair : K × V) → made pair → pair ≡ p) → slice_get new.entries (length old.entries) ≡ Some p
    -- Where the keys are, and how many there are.
    pub index : index_by test new.entries ≡ Some (unwrap_or (index_by test old.entries) (length old.entries))
    pub indices : (other : K → Bool) (i : ℕ) → index_by other old.entries ≡ Some i → index_by other new.entries ≡ Some i
    pub len : length new.entries ≡ (if is_some (lookup_by test old.entries) then length old.entries else length old.entries + 1)
    -- What other keys find: what they found, also after a write at `i`.
    pub updates : UpdatesBy eq test old.entries new.entries (lookup_by test new.entries)
    pub written : (v : V) → UpdatesBy eq test old.entries (with_value new.entries i v) (Some v)

module _ {K V : Type 0} (eq : K → K → Bool) where
  -- Example: `KeepsRoom nat_eq (map_of [(1, a)] 2) 2 (map_of [(1, a), (2, b)] 2)`.
  -- Example: `¬ (KeepsRoom nat_eq (map_of [(1, a)] 1) 1 (map_of [(1, b)] 2))`.
  -- The capacity does not shrink, and stays if the key is present or if there is spare capacity for one more pair.
  abbrev pub KeepsRoom : Contents K V → K → Contents K V → Type 0
  KeepsRoom old k new = KeepsRoomAt (index_of eq old.entries k) old new

  -- Example: `Refuses nat_eq (map_of [(1, a)] 1) 2 (map_of [(1, a)] 1)`.
  -- Example: `¬ (Refuses nat_eq (map_of [(1, a)] 1) 1 (map_of [(1, a)] 1))`.
  -- Memory ran out for the insertion of `k`: nothing has changed, the key is new, and the map is full.
  abbrev pub Refuses : Contents K V → K → Contents K V → Type 0
  Refuses old k new = RefusesAt (index_of eq old.entries k) old new
