use Rattle.std.proofs.{Common.{◌≡◌, ◌+◌, ◌*◌, ◌/◌, None, arith, length, position, take}, lemmas.Grind.common_steps}
use Rattle.vecmap_base.proofs.IndexLemmas.{none_before_next, position_at}
use Rattle.vecmap_base.proofs.unrolled.find_pair_unrolled.Goals as goal

pub returns-then-equivalent-clause-index : goal.returns-then-equivalent-clause-index
returns-then-equivalent-clause-index g c = grind (arith, common_steps, position_at (λ pair. g.Q.Equivalent.equivalent c.args.query pair.0) c.args.pairs.now (2 * c.loop-two.two) c.index-pairs-at.result)

pub returns-then-equivalent-2-clause-index : goal.returns-then-equivalent-2-clause-index
returns-then-equivalent-2-clause-index g c = grind (arith, common_steps, position_at (λ pair. g.Q.Equivalent.equivalent c.args.query pair.0) c.args.pairs.now (2 * c.loop-two.two + 1) c.index-pairs-at-in-loop-two.result)

pub returns-then-equivalent-3-clause-index : goal.returns-then-equivalent-3-clause-index
returns-then-equivalent-3-clause-index g c = grind (arith, common_steps, position_at (λ pair. g.Q.Equivalent.equivalent c.args.query pair.0) c.args.pairs.now (2 * (length c.args.pairs.now / 2)) c.index-pairs-last.result)

pub loop-two-preserved : goal.loop-two-preserved
loop-two-preserved g c =
    let one : position (λ pair. g.Q.Equivalent.equivalent c.args.query pair.0) (take (2 * c.loop-two.two + 1) c.args.pairs.now) ≡ None = grind (arith, none_before_next (λ pair. g.Q.Equivalent.equivalent c.args.query pair.0) c.args.pairs.now (2 * c.loop-two.two) (2 * c.loop-two.two + 1) c.index-pairs-at.result) in
    grind (arith, one, none_before_next (λ pair. g.Q.Equivalent.equivalent c.args.query pair.0) c.args.pairs.now (2 * c.loop-two.two + 1) (2 * (c.loop-two.two + 1)) c.index-pairs-at-in-loop-two.result)
