use Rattle.std.proofs.{Common.{◌+◌, arith}, lemmas.Grind.common_steps}
use Rattle.vecmap_base.proofs.IndexLemmas.{none_before_next, position_at}
use Rattle.vecmap_base.proofs.lookup.find_by_loop.Goals as goal

pub returns-then-equivalent-clause-index : goal.returns-then-equivalent-clause-index
returns-then-equivalent-clause-index g c = grind (arith, common_steps, position_at (λ pair. g.Q.Equivalent.equivalent c.args.query pair.0) c.args.pairs.now c.loop-index.index c.index-pairs-index.result)

pub loop-index-preserved : goal.loop-index-preserved
loop-index-preserved g c = grind (arith, none_before_next (λ pair. g.Q.Equivalent.equivalent c.args.query pair.0) c.args.pairs.now c.loop-index.index (c.loop-index.index + 1) c.index-pairs-index.result)
