use Rattle.vecmap_run.proofs.ServiceLemmas.{Since}
use Rattle.vecmap_run.proofs.serve.serve.Given as goal

-- What has been read so far, and what has been written for it.
abbrev pub invariant-loop : goal.invariant-loop
invariant-loop g l =
    let remaining = g.R.Read.remaining in
    let contents = g.W.Write.contents in
    Since (remaining l.fn.reader) (remaining l.reader) (contents l.fn.writer) (contents l.writer) l.service.line l.service.map.entries
