-- What lookups find after a change of a list of pairs. If a field of a record is the whole list, the others follow from it.
-- `eq` is the `==` of keys.
use Rattle.std.specs.Prelude.{◌≡◌, [], ◌++◌, ◌+◌, ◌<◌, ◌≤◌, ℕ, Bool, IfSome, IsSome, IsTrue, List, None, Option, Some, cond, if◌then◌else◌, is_some, length, min, nat_lt, slice_set, take, unwrap_or}
use Rattle.std.specs.{List.list_any, List.Sorted.IsPermutation, Option.{option_and_then, option_or}, Cmp.IsEquivalence}
use Rattle.std.specs.Set.{is_member, KeepsOthers as KeepsOtherItems}
use Rattle.std.specs.Map.{IsKeyTest, KeepsOthers, keys_of, set_value, values_of}
use Rattle.vecmap_base.specs.{Equality.has_same_counts, Indices.KeepsIndices, Pairs.{HasDistinctKeys, index_by, lookup, lookup_by, puts, value_at, with_value}}

module _ {K V : Type 0} (eq : K → K → Bool) where
  -- Example: `UpdatesBy nat_eq (nat_eq 1) [(1, a), (2, b)] [(2, b)] None`.
  -- Example: `¬ (UpdatesBy nat_eq (nat_eq 2) [(1, a)] [(1, a)] (Some b))`.
  -- The list `m` has `w` at the key that passes the test (`None`: it is absent), and at each other key what `l` has.
  pub record UpdatesBy (test : K → Bool) (l m : List (K × V)) (w : Option V) : Type 0 where
    pub lookups : (q : K) → lookup eq m q ≡ cond (test q) w (lookup eq l q)
    pub own : lookup_by test m ≡ w
    pub queries : KeepsOthers eq test l m
    -- Distinct keys stay distinct.
    pub distinct : HasDistinctKeys eq l → HasDistinctKeys eq m

  -- Example: of the query 2 in `[(1,a), (2,b)]`: `Some 1`, since it finds b there.
  -- The index `r` is that of the match of a query in the list `l`, if there is one. A write of a value there is one at the query.
  pub record FindsIndex (test : K → Bool) (l : List (K × V)) (r : Option ℕ) : Type 0 where
    pub found : is_some r ≡ is_some (lookup_by test l)
    pub stored : option_and_then (value_at l) r ≡ lookup_by test l
    pub written : IfSome r (λ i. (v : V) → UpdatesBy test l (with_value l i v) (Some v))

  -- Example: `KeepsLookups nat_eq [(1, a), (2, b)] [(2, b), (1, a)]`; `¬ (KeepsLookups nat_eq [(1, a)] [])` by `lookups 1`.
  -- Each key, and each query that matches a key and its equals alone, finds in the list `m` what it finds in `l`.
  pub record KeepsLookups (l m : List (K × V)) : Type 0 where
    pub lookups : (q : K) → lookup eq m q ≡ lookup eq l q
    pub queries : (test : K → Bool) → IsKeyTest eq test → lookup_by test m ≡ lookup_by test l
    pub distinct : HasDistinctKeys eq m

module _ {K V : Type 0} where
  -- Example: `KeepsFront 1 [(1, a), (2, b)] [(1, a)]`; `¬ (KeepsFront 1 [(1, a), (2, b)] [(2, b)])`.
  -- The list `m` has the first `n` pairs of the list `l`.
  pub record KeepsFront (n : ℕ) (l m : List (K × V)) : Type 0 where
    pub entries : m ≡ take n l
    -- What lookups find: a query whose match is in the front finds it, and any other nothing. Distinct keys stay distinct.
    pub lookups : (test : K → Bool) → lookup_by test m ≡ (if nat_lt (unwrap_or (index_by test l) (length l)) n then lookup_by test l else None)
    pub distinct : (eq : K → K → Bool) → HasDistinctKeys eq l → HasDistinctKeys eq m
    -- Which keys and values the list has, and at which indices.
    pub indices : (test : K → Bool) (i : ℕ) → index_by test l ≡ Some i → i < n → index_by test m ≡ Some i
    pub keys : keys_of m ≡ take n (keys_of l)
    pub values : values_of m ≡ take n (values_of l)
    pub len : length m ≡ min n (length l)

  -- Example: `IsReordered [(1, a), (2, b)] [(2, b), (1, a)]`; `¬ (IsReordered [(1, a), (2, b)] [(1, a)])`.
  -- The list `m` has the pairs of the list `l`, in some order.
  pub record IsReordered (l m : List (K × V)) : Type 0 where
    pub rearranged : IsPermutation l m
    -- Whether a query matches a key, and what lookups find if all keys are distinct.
    pub matches : (test : K → Bool) → is_some (index_by test m) ≡ is_some (index_by test l)
    pub lookups : (eq : K → K → Bool) → IsEquivalence eq → HasDistinctKeys eq l → KeepsLookups eq l m
    -- How many pairs there are, and that both lists are equal as maps.
    pub len : length m ≡ length l
    pub equal : (key : K → K → Bool) (value : V → V → Bool) → IsEquivalence key → IsEquivalence value → IsTrue (has_same_counts key value m l)

  -- Example: `UpdatesAt 1 [(1, a), (2, b)] [(1, a), (2, c)] c`; `¬ (UpdatesAt 1 [(1, a), (2, b)] [(1, a), (3, c)] c)`.
  -- The list `m` is the list `l` with `v` as the value at the index `i`.
  pub record UpdatesAt (i : ℕ) (l m : List (K × V)) (v : V) : Type 0 where
    -- What lookups find: the value for a match at the index, and what they found for any other key.
    pub own : (test : K → Bool) → index_by test l ≡ Some i → lookup_by test m ≡ Some v
    pub updates : (eq : K → K → Bool) (test : K → Bool) → IsEquivalence eq → IsKeyTest eq test → index_by test l ≡ Some i → UpdatesBy eq test l m (Some v)
    pub values : values_of m ≡ slice_set (values_of l) i v
    -- The keys stay, each at its index.
    pub keys : KeepsIndices l m

  -- Example: `Joins nat_eq [(1, a)] [(1, b), (2, c)] [(1, b), (2, c)]`; `¬ (Joins nat_eq [(1, a)] [] [])`.
  -- The list `m` is the list `l` after insertions of `pairs`.
  pub record Joins (eq : K → K → Bool) (l pairs m : List (K × V)) : Type 0 where
    pub entries : m ≡ puts eq l pairs
    -- What lookups find if the keys of `pairs` are distinct: the value in `pairs`, or else the value in `l`.
    pub lookups : HasDistinctKeys eq pairs → (q : K) → lookup eq m q ≡ option_or (lookup eq pairs q) (lookup eq l q)
    pub queries : (test : K → Bool) → IsKeyTest eq test → HasDistinctKeys eq pairs → lookup_by test m ≡ option_or (lookup_by test pairs) (lookup_by test l)
    pub distinct : HasDistinctKeys eq l → HasDistinctKeys eq m
    -- Where the old keys are, and how many there are.
    pub indices : (test : K → Bool) (i : ℕ) → index_by test l ≡ Some i → index_by test m ≡ Some i
    pub len : (length l ≤ length m) × (length m ≤ length l + length pairs)
    pub not_empty : 0 < length pairs → 0 < length m
    -- If all keys are distinct, the pairs are appended. `whole` is what a split has divided.
    pub joined : (whole : List (K × V)) → l ++ pairs ≡ whole → HasDistinctKeys eq whole → m ≡ whole

  -- Example: `MakesPairs nat_eq [(1, a), (2, b), (1, c)] [(1, c), (2, b)]`.
  -- Example: `¬ (MakesPairs nat_eq [(1, a), (1, b)] [(1, a), (1, b)])`.
  -- The list `m` is what insertions of `pairs` make. If their keys are distinct, it is `pairs`.
  pub record MakesPairs (eq : K → K → Bool) (pairs m : List (K × V)) : Type 0 where
    pub entries : m ≡ puts eq [] pairs
    pub as_given : HasDistinctKeys eq pairs → m ≡ pairs
    -- Distinct keys, and how many there are.
    pub distinct : HasDistinctKeys eq m
    pub len : length m ≤ length pairs
    pub not_empty : 0 < length pairs → 0 < length m

  -- Example: to the value c, on `[(1,a), (2,b)]` for the query 1: `[(1,c), (2,b)]`.
  -- A write of a value at the match of a query, in the list `l`.
  pub record WritesBy (eq : K → K → Bool) (test : K → Bool) (l : List (K × V)) : Type 0 where
    -- What lookups find: the value for the key, and for each other key what they found.
    pub updates : (v : V) → IsSome (lookup_by test l) → UpdatesBy eq test l (set_value test l v) (Some v)
    -- The keys stay, each at its index.
    pub keys : (v : V) → KeepsIndices l (set_value test l v)

-- Example: `UpdatesMember nat_eq (nat_eq 1) [1, 2] [2] false`; `¬ (UpdatesMember nat_eq (nat_eq 2) [1] [1] true)`.
-- The list `r` has elements that pass the test exactly if `b` is true, and each other element exactly if `s` has it.
pub record UpdatesMember {T : Type 0} (eq : T → T → Bool) (test : T → Bool) (s r : List T) (b : Bool) : Type 0 where
  pub members : (q : T) → is_member eq r q ≡ cond (test q) b (is_member eq s q)
  pub own : list_any test r ≡ b
  pub queries : KeepsOtherItems eq test s r
