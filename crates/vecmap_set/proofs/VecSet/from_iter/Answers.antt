use Rattle.std.proofs.Common.{subst}
use Rattle.vecmap_set.specs.SetBulk.{AddsItems}
use Rattle.vecmap_set.proofs.VecSet.from_iter.Goals as goal

pub returns-clause-runs : goal.returns-clause-runs
returns-clause-runs g c =
    let run = c.in_ok-extend.ensures.runs in
    let all = run.2 in
    (run.0, run.1, (all.0, all.1, all.2, subst (λ l. AddsItems g.T.PartialEq.eq l all.0.items c.extend.new.self.elements) c.new-set.ensures.list all.3))
