-- The loop keeps `KeptSoFar` with all items kept: each item stays where it is, as it was written.
use Rattle.std.{specs.Prelude.{◌<◌, length}, proofs.Common.arith}
use Rattle.vecmap_base.proofs.KeptLemmas.{callable_here, kept_here, kept_not}
use Rattle.vecmap_base.proofs.retain.find_rejected.Goals as goal

pub keeps-requires : goal.keeps-requires
keeps-requires g c =
    let x = c.index_mut.result.now in
    let within : c.loop-i.i < length c.args.items.now.items = omega (arith, c.loop-i-test.true, c.len-i-end.ensures, c.args.items.now.ok.0) in
    callable_here g.A.Predicate.step c.args.asked.now c.loop-i.asked c.loop-i.asked _ _ c.loop-i.i c.loop-i.i x x c.loop-i.invariant.kept within c.index_mut.ensures.value g.A.Predicate.accepts c.requires.callable

pub returns-then-not-keeps-clause-retained : goal.returns-then-not-keeps-clause-retained
returns-then-not-keeps-clause-retained g c =
    let within : c.loop-i.i < length c.args.items.now.items = omega (arith, c.loop-i-test.true, c.len-i-end.ensures, c.args.items.now.ok.0) in
    kept_not g.A.Predicate.step c.args.asked.now c.loop-i.asked c.keeps.new.self _ _ c.loop-i.i c.loop-i.i c.index_mut.result.now c.keeps.new.item c.loop-i.invariant.kept within c.index_mut.ensures.value c.if-not-keeps.true c.keeps.ensures

pub loop-i-preserved : goal.loop-i-preserved
loop-i-preserved g c =
    let within : c.loop-i.i < length c.args.items.now.items = omega (arith, c.loop-i-test.true, c.len-i-end.ensures, c.args.items.now.ok.0) in
    record {
      kept = kept_here g.A.Predicate.step c.args.asked.now c.loop-i.asked c.keeps.new.self _ _ c.loop-i.i c.index_mut.result.now c.keeps.new.item c.loop-i.invariant.kept within c.index_mut.ensures.value c.if-not-keeps.false c.keeps.ensures;
      capacity = c.loop-i.invariant.capacity;
    }
