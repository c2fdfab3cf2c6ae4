use Rattle.std.proofs.{Common.{arith, ◌+◌, ◌*◌, ◌/◌, length}, lemmas.Grind.common_steps}
use Rattle.vecmap_base.proofs.{IndexLemmas.list_any_front}
use Rattle.vecmap_base.proofs.unrolled.is_any_in_blocks.Goals as goal

pub returns-then-is_any_of_eight : goal.returns-then-is_any_of_eight
returns-then-is_any_of_eight g c = grind (arith, common_steps, list_any_front (g.Q.Equivalent.equivalent c.args.query) c.args.items.now (8 * c.loop-eight.eight + 8))

pub returns-then-is_any_of_four : goal.returns-then-is_any_of_four
returns-then-is_any_of_four g c = grind (arith, common_steps, list_any_front (g.Q.Equivalent.equivalent c.args.query) c.args.items.now (8 * (length c.args.items.now / 8) + 4))
