-- The idea: a new element is at the index after the others, as none before it is equal to it.
use Rattle.std.proofs.Common.{rules}
use Rattle.vecmap_base.{proofs.IndexLemmas.{list_any_position}}
use Rattle.vecmap_set.proofs.{SetIndexLemmas.finds_at, SetInsertionLemmas.adds_item}
use Rattle.vecmap_set.proofs.VecSet.insert_full.Goals as goal

pub returns-in-Some-clause-at : goal.returns-in-Some-clause-at
returns-in-Some-clause-at g c = finds_at (g.T.PartialEq.eq c.args.item) c.args.self.now.elements c.in-Some.index (search rules)

pub returns-in-Some-clause-insertion : goal.returns-in-Some-clause-insertion
returns-in-Some-clause-insertion g c = adds_item g.T.PartialEq.eq g.met.T.Eq.laws c.args.self.now.elements _ (search rules) c.args.item (search (rules, list_any_position))
