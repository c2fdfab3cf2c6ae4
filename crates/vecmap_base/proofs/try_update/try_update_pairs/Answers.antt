-- The loop keeps `KeptSoFar`: each pair stays where it is, as it was written.
use Rattle.std.{proofs.Common.{arith, get_or}, specs.Prelude.{◌+◌, ◌≤◌, Ok, drop, length, take}}
use Rattle.vecmap_base.proofs.{PairsLemmas.AtIndices.keeps_indices, UpdatedLemmas.{keys_stopped, updates_pairs}}
use Rattle.vecmap_base.proofs.UpdatedSteps.{all_updated, callable_next, one_updated, split, written_split}
use Rattle.vecmap_base.specs.Updated.{CallableAtValue, WritesValueAt}
use Rattle.vecmap_base.proofs.try_update.try_update_pairs.Goals as goal

pub try_value-requires : goal.try_value-requires
try_value-requires g c =
    let l = c.loop-pair in
    record { callable = callable_next (WritesValueAt g.F.FnMut (Ok tt)) c.args.f l.f c.args.pairs.now l.pairs l.pair-index c.pair-item.result l.invariant c.loop-pair-test.true (CallableAtValue g.F.FnMut) c.requires.callable }

pub loop-pair-preserved : goal.loop-pair-preserved
loop-pair-preserved g c =
    let l = c.loop-pair in
    one_updated (WritesValueAt g.F.FnMut (Ok tt)) c.args.f l.f c.args.pairs.now l.pairs l.pair-index c.pair-item.result l.invariant c.loop-pair-test.true c.try_value.new.pair c.try_value.new.f c.in-Ok.ensures.called

pub returns-in-Err-clause-err : goal.returns-in-Err-clause-err
returns-in-Err-clause-err g c =
    let l = c.loop-pair in
    let i = l.pair-index in
    let R = WritesValueAt g.F.FnMut (Ok tt) in
    record {
      before = take i c.args.pairs.now;
      after = drop (i + 1) c.args.pairs.now;
      written = take i l.pairs;
      pair = get_or l.pairs i c.pair-item.result;
      left = c.try_value.new.pair;
      state = l.f;
      all = split R c.args.f l.f c.args.pairs.now l.pairs i c.pair-item.result l.invariant c.loop-pair-test.true;
      updated = l.invariant.run;
      failed = (c.try_value.new.f, c.in-Err.ensures.called);
      leaves = written_split R c.args.f l.f c.args.pairs.now l.pairs i c.pair-item.result l.invariant c.loop-pair-test.true c.try_value.new.pair;
    }

pub returns-in-Err-clause-keys : goal.returns-in-Err-clause-keys
returns-in-Err-clause-keys g c = keeps_indices _ _ (keys_stopped g.F.FnMut c.in-Err.error c.args.f _ _ (returns-in-Err-clause-err g c))

pub returns-clause-ok : goal.returns-clause-ok
returns-clause-ok g c =
    let l = c.loop-pair in
    let done : length c.args.pairs.now ≤ l.pair-index = omega (arith, c.loop-pair-test.false) in
    let R = WritesValueAt g.F.FnMut (Ok tt) in
    updates_pairs R (λ f p q g call. call.1) c.args.f c.args.pairs.now l.pairs (l.f, all_updated R c.args.f l.f c.args.pairs.now l.pairs l.pair-index l.invariant done)

pub returns-clause-keys : goal.returns-clause-keys
returns-clause-keys g c = (returns-clause-ok g c).keys
