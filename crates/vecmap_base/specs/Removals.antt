-- What the removal of one pair, and a split, leaves of a list of pairs, one record for each kind of removal. One field is the
-- whole list, and the others follow from it. `eq` is the `==` of keys, and a test is what a query does with a key.
use Rattle.std.specs.Prelude.{◌≡◌, ◌+◌, ◌++◌, ◌-◌, ℕ, Bool, IfSome, List, None, Option, Some, cond, drop, if◌then◌else◌, is_some, length, option_map, slice_get}
use Rattle.std.specs.{Cmp.IsEquivalence, Map.IsKeyTest, Option.option_or}
use Rattle.vecmap_base.specs.{Lookups.{KeepsFront, UpdatesBy}, Pairs.{HasDistinctKeys, index_by, lookup_by, lookup_pair_by}}

module _ {K V : Type 0} where
  -- Example: `FindsPair (nat_eq 1) [(1, a), (2, b)] (Some (1, a))`; `¬ (FindsPair (nat_eq 1) [(1, a)] None)`.
  -- The pair that a query finds, if there is one.
  pub record FindsPair (test : K → Bool) (l : List (K × V)) (r : Option (K × V)) : Type 0 where
    pub pair : r ≡ lookup_pair_by test l
    -- The same as a lookup of the value says it: whether there is one, and which.
    pub found : is_some r ≡ is_some (lookup_by test l)
    pub value : option_map (λ p. p.1) r ≡ lookup_by test l

  -- Example: `RemovesBy nat_eq without_by (nat_eq 1) [(1, a), (2, b)] [(2, b)]`.
  -- Example: `¬ (RemovesBy nat_eq without_by (nat_eq 1) [(1, a)] [(1, a)])`.
  -- The list `m` is the list `l` without the first pair whose key passes the test, and with the others as `without` says.
  pub record RemovesBy (eq : K → K → Bool) (without : (K → Bool) → List (K × V) → List (K × V)) (test : K → Bool) (l m : List (K × V)) : Type 0 where
    pub entries : m ≡ without test l
    -- What lookups find if all keys are distinct: nothing for the key, and for each other key what they found.
    pub updates : HasDistinctKeys eq l → UpdatesBy eq test l m None
    pub gone : HasDistinctKeys eq l → index_by test m ≡ None
    -- How many pairs there are.
    pub len : length m + (if is_some (lookup_by test l) then 1 else 0) ≡ length l

  -- Example: the key 1, from `[(1,a), (2,b)]` to `[(2,b)]`.
  -- A query that matches the key `k` finds nothing in the list `m`, and any other query what it found in `l`.
  abbrev pub ForgetsKey : K → List (K × V) → List (K × V) → Type 0
  ForgetsKey k l m = (test : K → Bool) (eq : K → K → Bool) → HasDistinctKeys eq l → IsKeyTest eq test → IsEquivalence eq → lookup_by test m ≡ cond (test k) None (lookup_by test l)

  -- Example: the index 0, from `[(1,a), (2,b)]` to `[(2,b)]`.
  -- A query whose match was at the index `i` of the list `l` finds nothing in the list `m`.
  abbrev pub ForgetsIndex : ℕ → List (K × V) → List (K × V) → Type 0
  ForgetsIndex i l m = (test : K → Bool) (eq : K → K → Bool) → HasDistinctKeys eq l → IsKeyTest eq test → IsEquivalence eq → index_by test l ≡ Some i → lookup_by test m ≡ None

  -- Example: `RemovesAt remove 0 [(1, a), (2, b)] (1, a) [(2, b)]`; `¬ (RemovesAt remove 0 [(1, a), (2, b)] (1, a) [(1, a)])`.
  -- The list `m` is the list `l` without its pair `p` at the index `i`, and with the others as `without` says.
  pub record RemovesAt (without : List (K × V) → ℕ → List (K × V)) (i : ℕ) (l : List (K × V)) (p : K × V) (m : List (K × V)) : Type 0 where
    pub pair : slice_get l i ≡ Some p
    pub entries : m ≡ without l i
    -- What lookups find, by the removed key and by its index.
    pub lookups : ForgetsKey p.0 l m
    pub gone : ForgetsIndex i l m
    -- How many pairs there are.
    pub len : length m + 1 ≡ length l

  -- Example: `RemovesLast [(1, a), (2, b)] (Some (2, b)) [(1, a)]`; `¬ (RemovesLast [(1, a), (2, b)] (Some (1, a)) [(2, b)])`.
  -- The list `m` is the list `l` without its last pair, which is returned, if there is one.
  pub record RemovesLast (l : List (K × V)) (r : Option (K × V)) (m : List (K × V)) : Type 0 where
    pub pair : r ≡ slice_get l (length l - 1)
    -- The list, with what lookups find by the index of the match.
    pub front : KeepsFront (length l - 1) l m
    -- What lookups find by the removed key.
    pub removal : IfSome r (λ p. ForgetsKey p.0 l m)
    pub len : length m + (if is_some r then 1 else 0) ≡ length l

  -- Example: `SplitsAt 1 [(1, a), (2, b)] [(1, a)] [(2, b)]`; `¬ (SplitsAt 1 [(1, a), (2, b)] [(2, b)] [(1, a)])`.
  -- The list `l` is split before the index `i`: the list `m` is the front, and the list `r` the rest.
  pub record SplitsAt (i : ℕ) (l m r : List (K × V)) : Type 0 where
    pub front : KeepsFront i l m
    pub part : r ≡ drop i l
    -- Both parts together: the list, and what lookups find.
    pub whole : m ++ r ≡ l
    pub part_lookups : (test : K → Bool) → lookup_by test l ≡ option_or (lookup_by test m) (lookup_by test r)
