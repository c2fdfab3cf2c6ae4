-- The loop keeps `KeptSoFar`: each pair stays where it is, as it was written.
use Rattle.std.{proofs.Common.arith, specs.Prelude.{◌≤◌, length}}
use Rattle.vecmap_base.proofs.{UpdatedLemmas.updates_pairs, UpdatedSteps.{all_updated, callable_next, one_updated}}
use Rattle.vecmap_base.specs.Updated.{CallableAtValue, WritesValueAt}
use Rattle.vecmap_base.proofs.update.update_pairs.Goals as goal

pub write_value-requires : goal.write_value-requires
write_value-requires g c =
    let l = c.loop-pair in
    record { callable = callable_next (WritesValueAt g.F.FnMut tt) c.args.f l.f c.args.pairs.now l.pairs l.pair-index c.pair-item.result l.invariant c.loop-pair-test.true (CallableAtValue g.F.FnMut) c.requires.callable }

pub loop-pair-preserved : goal.loop-pair-preserved
loop-pair-preserved g c =
    let l = c.loop-pair in
    one_updated (WritesValueAt g.F.FnMut tt) c.args.f l.f c.args.pairs.now l.pairs l.pair-index c.pair-item.result l.invariant c.loop-pair-test.true c.write_value.new.pair c.write_value.new.f c.write_value.ensures.called

pub returns : goal.returns
returns g c =
    let l = c.loop-pair in
    let done : length c.args.pairs.now ≤ l.pair-index = omega (arith, c.loop-pair-test.false) in
    let R = WritesValueAt g.F.FnMut tt in
    record { update = updates_pairs R (λ f p q g call. call.1) c.args.f c.args.pairs.now l.pairs (l.f, all_updated R c.args.f l.f c.args.pairs.now l.pairs l.pair-index l.invariant done) }
