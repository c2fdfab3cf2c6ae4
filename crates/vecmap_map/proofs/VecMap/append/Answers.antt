use Rattle.std.proofs.{lemmas.Grind.common_steps, Common.arith}
use Rattle.vecmap_base.proofs.PairsLemmas.ManyPairs.{joins_of_puts}
use Rattle.vecmap_map.proofs.VecMap.append.Goals as goal

pub returns-clause-insertion : goal.returns-clause-insertion
returns-clause-insertion g c = joins_of_puts g.K.PartialEq.eq g.met.K.Eq.laws c.args.self.now.entries c.args.other.now.entries _ (grind (arith, common_steps))
