use Rattle.std.proofs.{Common.{arith, ◌+◌, ◌*◌}, lemmas.Grind.common_steps}
use Rattle.vecmap_base.proofs.IndexLemmas.{position_at}
use Rattle.vecmap_base.proofs.unrolled.find_item_unrolled.Goals as goal

pub returns-then-equivalent-clause-index : goal.returns-then-equivalent-clause-index
returns-then-equivalent-clause-index g c = grind (arith, common_steps, position_at (g.Q.Equivalent.equivalent c.args.query) c.args.items.now (4 * c.loop-four.four) c.index-items-at.result)

pub returns-then-equivalent-2-clause-index : goal.returns-then-equivalent-2-clause-index
returns-then-equivalent-2-clause-index g c = grind (arith, common_steps, position_at (g.Q.Equivalent.equivalent c.args.query) c.args.items.now (4 * c.loop-four.four + 1) c.index-items-at-in-loop-four.result)

pub returns-then-equivalent-3-clause-index : goal.returns-then-equivalent-3-clause-index
returns-then-equivalent-3-clause-index g c = grind (arith, common_steps, position_at (g.Q.Equivalent.equivalent c.args.query) c.args.items.now (4 * c.loop-four.four + 2) c.index-items-at-in-loop-four-2.result)

pub returns-then-equivalent-4-clause-index : goal.returns-then-equivalent-4-clause-index
returns-then-equivalent-4-clause-index g c = grind (arith, common_steps, position_at (g.Q.Equivalent.equivalent c.args.query) c.args.items.now (4 * c.loop-four.four + 3) c.index-items-at-in-loop-four-3.result)
