-- Each comparison that fails adds one item to the front in which no item matches.
use Rattle.std.proofs.{Common.{◌≡◌, ◌+◌, None, arith, position, take}, lemmas.Grind.common_steps}
use Rattle.vecmap_base.proofs.IndexLemmas.{position_at}
use Rattle.vecmap_base.proofs.unrolled.find_of_eight.Goals as goal

pub returns-then-a-clause-index : goal.returns-then-a-clause-index
returns-then-a-clause-index g c = grind (arith, common_steps, position_at (g.Q.Equivalent.equivalent c.args.query) c.args.items.now c.args.at c.index-items-at.result)

pub returns-then-b-clause-index : goal.returns-then-b-clause-index
returns-then-b-clause-index g c = grind (arith, common_steps, position_at (g.Q.Equivalent.equivalent c.args.query) c.args.items.now (c.args.at + 1) c.index-items-at-2.result)

pub returns-then-c-clause-index : goal.returns-then-c-clause-index
returns-then-c-clause-index g c = grind (arith, common_steps, position_at (g.Q.Equivalent.equivalent c.args.query) c.args.items.now (c.args.at + 2) c.index-items-at-3.result)

pub returns-then-d-clause-index : goal.returns-then-d-clause-index
returns-then-d-clause-index g c = grind (arith, common_steps, position_at (g.Q.Equivalent.equivalent c.args.query) c.args.items.now (c.args.at + 3) c.index-items-at-4.result)

pub returns-then-e-clause-index : goal.returns-then-e-clause-index
returns-then-e-clause-index g c =
    let none : position (g.Q.Equivalent.equivalent c.args.query) (take (c.args.at + 4) c.args.items.now) ≡ None = grind (arith, common_steps) in
    grind (arith, none, position_at (g.Q.Equivalent.equivalent c.args.query) c.args.items.now (c.args.at + 4) c.index-items-at-5.result)

pub returns-then-f-clause-index : goal.returns-then-f-clause-index
returns-then-f-clause-index g c =
    let none : position (g.Q.Equivalent.equivalent c.args.query) (take (c.args.at + 5) c.args.items.now) ≡ None = grind (arith, common_steps) in
    grind (arith, none, position_at (g.Q.Equivalent.equivalent c.args.query) c.args.items.now (c.args.at + 5) c.index-items-at-6.result)

pub returns-then-g-clause-index : goal.returns-then-g-clause-index
returns-then-g-clause-index g c =
    let none : position (g.Q.Equivalent.equivalent c.args.query) (take (c.args.at + 6) c.args.items.now) ≡ None = grind (arith, common_steps) in
    grind (arith, none, position_at (g.Q.Equivalent.equivalent c.args.query) c.args.items.now (c.args.at + 6) c.index-items-at-7.result)

pub returns-clause-index : goal.returns-clause-index
returns-clause-index g c =
    let none : position (g.Q.Equivalent.equivalent c.args.query) (take (c.args.at + 7) c.args.items.now) ≡ None = grind (arith, common_steps) in
    grind (arith, none, position_at (g.Q.Equivalent.equivalent c.args.query) c.args.items.now (c.args.at + 7) c.index-items-at-8.result)
