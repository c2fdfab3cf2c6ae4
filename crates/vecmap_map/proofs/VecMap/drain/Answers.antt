use Rattle.std.proofs.{Common.arith, lemmas.{Grind.common_steps, List.drop_all}}
use Rattle.vecmap_base.proofs.PairsLemmas.ManyPairs.{keeps_front_of}
use Rattle.vecmap_map.proofs.VecMap.drain.Goals as goal

pub returns-clause-front : goal.returns-clause-front
returns-clause-front g c end = keeps_front_of _ c.args.self.now.entries _ (grind (arith, common_steps, c.over.ensures.kept, drop_all, end))
