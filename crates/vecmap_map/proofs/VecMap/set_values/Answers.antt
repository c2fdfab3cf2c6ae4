use Rattle.std.proofs.Common.{rules}
use Rattle.vecmap_base.proofs.UpdatedLemmas.{sets_values}
use Rattle.vecmap_map.proofs.VecMap.set_values.Goals as goal

pub returns-clause-update : goal.returns-clause-update
returns-clause-update g c = sets_values c.args.value c.args.self.now.entries _ (search rules)
