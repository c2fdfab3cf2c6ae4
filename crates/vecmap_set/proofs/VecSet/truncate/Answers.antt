use Rattle.std.proofs.Common.{rules}
use Rattle.vecmap_set.proofs.SetRemovalLemmas.{keeps_front_items}
use Rattle.vecmap_set.proofs.VecSet.truncate.Goals as goal

pub returns-clause-front : goal.returns-clause-front
returns-clause-front g c = keeps_front_items g.T.PartialEq.eq c.args.len c.args.self.now.elements _ (search rules) (search rules)
