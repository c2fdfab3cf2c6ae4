use Rattle.std.proofs.Common.{rules}
use Rattle.vecmap_set.proofs.SetRemovalLemmas.{removes_last_item}
use Rattle.vecmap_set.proofs.VecSet.pop.Goals as goal

pub returns-clause-removal : goal.returns-clause-removal
returns-clause-removal g c = removes_last_item g.T.PartialEq.eq g.met.T.Eq.laws c.args.self.now.elements _ (search rules) c.pop.result (search rules) (search rules)
