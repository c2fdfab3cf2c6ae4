use Rattle.std.proofs.Common.{rules}
use Rattle.vecmap_base.proofs.RemovalLemmas.{removes_last}
use Rattle.vecmap_map.proofs.VecMap.pop.Goals as goal

pub returns-clause-removal : goal.returns-clause-removal
returns-clause-removal g c = removes_last c.args.self.now.entries _ c.pop.result (search rules) (search rules)
