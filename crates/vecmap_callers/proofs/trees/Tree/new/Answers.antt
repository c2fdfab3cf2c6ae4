use Rattle.std.{specs.{Prelude.{◌≡◌, ℕ, List, [], ◌∷◌, None, nat_eq}, Option.option_and_then}, proofs.Common.{ap, rules}}
use Rattle.vecmap.specs.Pairs.{lookup}
use Rattle.vecmap_callers.specs.{Trees.value_at, declared.trees.Tree.{Tree, out-Tree, TheViews.the_lemmas}}
use Rattle.vecmap_callers.proofs.trees.Tree.new.Goals as goal

no_values : (tree : Tree) → (out-Tree tree).value ≡ None → (out-Tree tree).below.entries ≡ [] → (path : List ℕ) → value_at path tree ≡ None
no_values tree value below [] = value
no_values tree value below (number ∷ rest) = ap (λ l. option_and_then (value_at rest) (lookup nat_eq l number)) below

pub returns : goal.returns
returns c = no_values _ (search (rules, the_lemmas)) (search (rules, the_lemmas))
