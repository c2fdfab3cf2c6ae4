-- What stands at the paths of a tree.
use Rattle.std.specs.{Prelude.{ℕ, List, [], ◌∷◌, Option, nat_eq}, Option.option_and_then}
use Rattle.vecmap.specs.Pairs.{lookup}
use Rattle.vecmap_callers.specs.declared.trees.Tree.{Tree, out-Tree}

-- The value at a path, if there is one.
abbrev pub value_at : List ℕ → Tree → Option ℕ
value_at [] tree = (out-Tree tree).value
value_at (number ∷ rest) tree = option_and_then (value_at rest) (lookup nat_eq (out-Tree tree).below.entries number)
