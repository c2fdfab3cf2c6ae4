use Rattle.std.proofs.{Common.arith, lemmas.Grind.common_steps}
use Rattle.vecmap_base.proofs.IndexLemmas.{position_at}
use Rattle.vecmap_base.proofs.unrolled.find_from.Goals as goal

pub returns-then-equivalent-clause-index : goal.returns-then-equivalent-clause-index
returns-then-equivalent-clause-index g c = grind (arith, common_steps, position_at (g.Q.Equivalent.equivalent c.args.query) c.args.items.now c.loop-index.index c.index-items-index.result)
