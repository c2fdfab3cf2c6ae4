-- The number of comparisons that searches, additions and removals of duplicates make.
use Rattle.std.specs.{Prelude.{ℕ, ◌+◌, ◌-◌, ◌*◌, ◌/◌, Bool, List, [], ◌∷◌, length, position}, Option.option_map_or}
use Rattle.vecmap_base.specs.Items.{add}

-- Example: `cost 5 ≡ 10`.
-- The most comparisons that `n` items may need: one for each two of them.
abbrev pub cost : ℕ → ℕ
cost n = n * (n - 1) / 2

-- Example: `search_cost_by (nat_eq 2) [1, 2, 3] ≡ 2`; `search_cost_by (nat_eq 4) [1, 2, 3] ≡ 3`.
-- The comparisons of a search by a test: of each element of `s` up to the first that passes, or of all of `s`.
abbrev pub search_cost_by : {T : Type 0} → (T → Bool) → List T → ℕ
search_cost_by test s = option_map_or (λ i. i + 1) (position test s) (length s)

module _ {T : Type 0} (eq : T → T → Bool) where
  -- Example: `search_cost nat_eq [1, 2, 3] 2 ≡ 2`; `search_cost nat_eq [1, 2, 3] 4 ≡ 3`.
  -- The comparisons of a search for `x`: with each element of `s` up to the first equal one, or with all of `s`.
  abbrev pub search_cost : List T → T → ℕ
  search_cost s x = search_cost_by (eq x) s

  -- Example: `adds_cost nat_eq [1] [2, 1] ≡ 2`.
  -- The comparisons of additions in order: each of `xs` is searched for in what `s` has become by then.
  abbrev pub adds_cost : List T → List T → ℕ
  adds_cost s [] = 0
  adds_cost s (x ∷ xs) = search_cost s x + adds_cost (add eq s x) xs

  -- Example: `comparisons nat_eq [1, 2, 1] ≡ 2`.
  -- The comparisons of a removal of duplicates: each of `xs` is searched for among the kept ones before it.
  abbrev pub comparisons : List T → ℕ
  comparisons xs = adds_cost [] xs
