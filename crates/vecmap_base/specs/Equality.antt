-- Equality of two lists as maps or as sets. `key`, `value` and `eq` are the `==` of keys, values and elements.
use Rattle.std.specs.Prelude.{◌≡◌, ℕ, ◌<◌, Bool, ◌&&◌, false, true, List, [], ◌∷◌, get_or, length, nat_eq}
use Rattle.std.specs.List.{count_by, list_all, list_any}

module _ {K V : Type 0} (key : K → K → Bool) (value : V → V → Bool) where
  -- Example: `same_pair eq nat_eq (1x, 5) (1y, 5) ≡ true`.
  -- Two pairs have equal keys and equal values.
  abbrev pub same_pair : K × V → K × V → Bool
  same_pair p q = key p.0 q.0 && value p.1 q.1

  -- Example: `FirstDiffer nat_eq nat_eq [(1, 5), (2, 6)] [(1, 6), (2, 6)]`.
  -- The first pairs of two lists of one length differ, by key or by value, if there are any.
  abbrev pub FirstDiffer : List (K × V) → List (K × V) → Type 0
  FirstDiffer a b = (p : K × V) → 0 < length a → same_pair (get_or a 0 p) (get_or b 0 p) ≡ false

  -- Example: `count nat_eq nat_eq [(1, 5), (1, 5), (1, 6)] (1, 5) ≡ 2`.
  -- The number of pairs of `l` with the key and the value of `p`.
  abbrev pub count : List (K × V) → K × V → ℕ
  count l p = count_by (same_pair p) l

  -- Example: `counts_agree nat_eq nat_eq [(1, 5)] [(1, 5), (2, 6)] [(1, 5)] ≡ true`.
  -- Each of these pairs is equal to itself, and occurs equally often in `a` and in `b`.
  abbrev pub counts_agree : List (K × V) → List (K × V) → List (K × V) → Bool
  counts_agree pairs a b = list_all (λ p. same_pair p p && nat_eq (count a p) (count b p)) pairs

  -- Example: `has_same_counts nat_eq nat_eq [(1, 5), (1, 6)] [(1, 6), (1, 5)] ≡ true`.
  -- Equality of maps: each pair of either list is equal to itself, and occurs equally often in both.
  abbrev pub has_same_counts : List (K × V) → List (K × V) → Bool
  has_same_counts a b = counts_agree a a b && counts_agree b a b

module _ {T : Type 0} (eq : T → T → Bool) where
  -- Example: `is_within nat_eq [2, 1] [1, 2] ≡ true`.
  -- Each element of `a` is in `b`.
  abbrev pub is_within : List T → List T → Bool
  is_within a b = list_all (λ x. list_any (eq x) b) a

  -- Example: `has_same_items nat_eq [1, 2] [2, 1] ≡ true`.
  -- Equality of sets: each element of either list is in the other.
  abbrev pub has_same_items : List T → List T → Bool
  has_same_items a b = is_within a b && is_within b a

-- Example: `free [a, b, c] [true, false] ≡ [b, c]`.
-- The items of `l` that have no mark. Items beyond the marks have none.
unfoldable pub free : {X : Type 0} → List X → List Bool → List X
free [] marks = []
free (x ∷ xs) [] = x ∷ xs
free (x ∷ xs) (true ∷ marks) = free xs marks
free (x ∷ xs) (false ∷ marks) = x ∷ free xs marks
