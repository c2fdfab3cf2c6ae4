use Rattle.std.proofs.{Common.{arith, rules}, lemmas.{Grind.common_steps, List.drop_all}}
use Rattle.vecmap_set.proofs.SetRemovalLemmas.{keeps_front_items}
use Rattle.vecmap_set.proofs.VecSet.drain.Goals as goal

pub returns-clause-front : goal.returns-clause-front
returns-clause-front g c end = keeps_front_items g.T.PartialEq.eq _ c.args.self.now.elements _ (search rules) (grind (arith, common_steps, c.over.ensures.kept, drop_all, end))
