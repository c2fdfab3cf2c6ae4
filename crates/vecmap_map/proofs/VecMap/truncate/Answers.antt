use Rattle.std.proofs.Common.{rules}
use Rattle.vecmap_base.proofs.PairsLemmas.ManyPairs.{keeps_front_of}
use Rattle.vecmap_map.proofs.VecMap.truncate.Goals as goal

pub returns-clause-front : goal.returns-clause-front
returns-clause-front g c = keeps_front_of c.args.len c.args.self.now.entries _ (search rules)
