use Rattle.std.proofs.lemmas.Result.{on_ok_weaker}
use Rattle.vecmap_run.proofs.ServiceLemmas.{GoesOn-answered, GoesOn-pushed}
use Rattle.vecmap_run.proofs.serve.Service.take_byte.Goals as goal

pub returns-then-byte-eq10-clause-ok : goal.returns-then-byte-eq10-clause-ok
returns-then-byte-eq10-clause-ok g c =
    on_ok_weaker c.answer.result (λ answers. rw c.if-byte-eq10.true (GoesOn-answered _ _ _ _ _ _ answers c.answer.ensures.line)) c.answer.ensures.ok

pub returns-clause-ok : goal.returns-clause-ok
returns-clause-ok g c = GoesOn-pushed _ _ _ _ _ c.if-byte-eq10.false c.push.ensures
