use Rattle.std.proofs.{Common.{◌≡◌, arith, length}, Math.Seq.take-length, lemmas.List.take_more}
use Rattle.vecmap_run.proofs.ServiceLemmas.{GoesOn-nil, GoesOn-trans}
use Rattle.vecmap_run.proofs.serve.Service.take.Goals as goal

pub loop-byte-init : goal.loop-byte-init
loop-byte-init g c = GoesOn-nil _ _ _

pub loop-byte-preserved : goal.loop-byte-preserved
loop-byte-preserved g c =
    rw (take_more c.args.bytes.now c.loop-byte.byte-index 0 c.loop-byte-test.true)
    (GoesOn-trans _ _ _ _ _ _ _ _ _ _ _ c.loop-byte.invariant c.in_ok-take_byte.ensures.ok)

pub returns-clause-ok : goal.returns-clause-ok
returns-clause-ok g c =
    let all : c.loop-byte.byte-index ≡ length c.args.bytes.now = omega arith in
    rw (all, take-length) at c.loop-byte.invariant
