-- What the laws of maps speak of: two maps whose lookups agree, insertions of which the first value wins, and keys of two
-- strings with queries of two texts. `key`, `value` and `eq` are the `==` of keys and of values.
use Rattle.std.specs.{List.list_all, Map.keys_of, Option.option_eq, Prelude.{Bool, ◌&&◌, List, fold, unwrap_or, ℕ, String, string_eq}}
use Rattle.std.specs.declared.alloc.Global.{Global}
use Rattle.vecmap_base.specs.Pairs.{lookup, put, has_text}

module _ {K V : Type 0} (key : K → K → Bool) (value : V → V → Bool) where
  -- Example: `lookups_agree nat_eq nat_eq [2] [(1, 5), (2, 6)] [(2, 6)] ≡ true`.
  -- Each of these keys has equal values in both lists, or none in both.
  abbrev pub lookups_agree : List K → List (K × V) → List (K × V) → Bool
  lookups_agree keys a b = list_all (λ k. option_eq value (lookup key a k) (lookup key b k)) keys

  -- Example: `agrees nat_eq nat_eq [(1, 5), (2, 6)] [(2, 6), (1, 5)] ≡ true`; `agrees nat_eq nat_eq [(1, 5)] [] ≡ false`.
  -- The lookups of each key of either list agree.
  abbrev pub agrees : List (K × V) → List (K × V) → Bool
  agrees a b = lookups_agree (keys_of a) a b && lookups_agree (keys_of b) a b

module _ {K V : Type 0} (eq : K → K → Bool) where
  -- Example: `put_new nat_eq [(1, a)] 1 b ≡ [(1, a)]`; `put_new nat_eq [(1, a)] 2 b ≡ [(1, a), (2, b)]`.
  -- The list `l` after an insertion of `(k, v)` if the key is absent, as by `entry(k).or_insert(v)`.
  abbrev pub put_new : List (K × V) → K → V → List (K × V)
  put_new l k v = put eq l k (unwrap_or (lookup eq l k) v)

  -- Example: `puts_new nat_eq [(1, a)] [(1, b), (2, c)] ≡ [(1, a), (2, c)]`.
  -- The list `l` after such an insertion of each of the pairs, in order.
  abbrev pub puts_new : List (K × V) → List (K × V) → List (K × V)
  puts_new l pairs = fold (λ done p. put_new done p.0 p.1) l pairs

-- Example: true of `("a", "b")` and `("a", "b")`.
-- The `==` of keys of two strings.
abbrev pub both_equal : String Global × String Global → String Global × String Global → Bool
both_equal x y = string_eq x.0 y.0 && string_eq x.1 y.1

-- Example: true of the texts `a` and `b` and the key `("a", "b")`.
-- The strings of the key have these bytes.
abbrev pub has_texts : List ℕ → List ℕ → String Global × String Global → Bool
has_texts first second key = has_text first key.0 && has_text second key.1
