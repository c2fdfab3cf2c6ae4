-- Idea: the loop keeps an account of what was read and of the answers that were written. Each return closes it: with
-- all lines at the end of the input, and with the ended lines if a read fails.
use Rattle.std.proofs.{Common.{◌≡◌, arith}, KnownBytes.Keeps-refl, lemmas.Result.on_ok_weaker}
use Rattle.vecmap_run.proofs.ServiceLemmas.{Serves-all, Serves-ended, Since-kept, Since-more}
use Rattle.vecmap_run.proofs.serve.serve.Goals as goal
use Rattle.vecmap_run.proofs.serve.serve.Goals.{in-Ok+in_ok-take-in-Ok, in-Err}

pub returns-in-Ok-eq0-clause-ok : goal.returns-in-Ok-eq0-clause-ok
returns-in-Ok-eq0-clause-ok g c =
    let none : c.in-Ok-eq0.field-0 ≡ 0 = omega arith in
    let (read, _) = rw (c.in-Ok-eq0.is, none) at c.read.ensures.bytes in
    on_ok_weaker c.finish.result (λ finish. Serves-all _ _ _ _ _ _ _ c.loop.invariant read _ _ finish) c.finish.ensures.ok

pub returns-in-Err-2-clause-reading : goal.returns-in-Err-2-clause-reading
returns-in-Err-2-clause-reading g c _ = Serves-ended _ _ _ _ _ _ _ c.loop.invariant c.in-Err-2.ensures.bytes

pub loop-preserved : goal.loop-preserved
loop-preserved g c = elim c.match-read.branch [
  | in-Ok+in_ok-take-in-Ok w ↦ rw (w.writer-is, w.service-is) (Since-more _ _ _ _ _ _ _ c.loop.invariant _ _ _ _ w.in-Ok.ensures.bytes.0 w.in_ok-take-in-Ok.ensures.ok)
  | in-Err w ↦ rw (w.writer-is, w.service-is) (Since-kept _ _ _ _ _ _ _ c.loop.invariant w.in-Err.ensures.bytes)
]

pub returns-clause-reading : goal.returns-clause-reading
returns-clause-reading g c _ = Serves-ended _ _ _ _ _ _ _ c.loop.invariant (Keeps-refl _)
