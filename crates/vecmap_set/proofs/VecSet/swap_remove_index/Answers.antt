use Rattle.std.proofs.{Common.{arith, rules}, lemmas.Option.gets}
use Rattle.vecmap_set.proofs.SetRemovalLemmas.{distinct_swap_removed, last_item_moves, swap_removes_item_at}
use Rattle.vecmap_set.proofs.VecSet.swap_remove_index.Goals as goal

pub returns-clause-removal : goal.returns-clause-removal
returns-clause-removal g c = swap_removes_item_at g.T.PartialEq.eq g.met.T.Eq.laws c.args.self.now.elements _ (search rules) c.args.index c.swap_remove.result (grind (arith, gets)) (grind (arith, gets))

pub returns-clause-distinct : goal.returns-clause-distinct
returns-clause-distinct g c = distinct_swap_removed g.T.PartialEq.eq g.met.T.Eq.laws c.args.self.now.elements _ (search rules) c.args.index c.swap_remove.result (returns-clause-removal g c)

pub invariant_of-self : goal.invariant_of-self
invariant_of-self = returns-clause-distinct

pub returns-clause-indices : goal.returns-clause-indices
returns-clause-indices g c = last_item_moves g.T.PartialEq.eq g.met.T.Eq.laws c.args.self.now.elements _ (search rules) c.args.index c.swap_remove.result (returns-clause-removal g c)
