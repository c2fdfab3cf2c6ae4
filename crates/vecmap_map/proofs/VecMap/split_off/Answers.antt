use Rattle.std.proofs.Common.{rules}
use Rattle.vecmap_base.proofs.RemovalLemmas.{splits_at}
use Rattle.vecmap_map.proofs.VecMap.split_off.Goals as goal

pub returns-clause-split : goal.returns-clause-split
returns-clause-split g c = splits_at c.args.self.now.entries _ c.args.at _ (search rules) (search rules)
