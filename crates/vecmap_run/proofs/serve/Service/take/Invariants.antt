use Rattle.std.proofs.Common.{take}
use Rattle.vecmap_run.specs.Service.{GoesOn}
use Rattle.vecmap_run.proofs.serve.Service.take.Given as goal

-- The service has proceeded over the bytes so far.
abbrev pub invariant-loop-byte : goal.invariant-loop-byte
invariant-loop-byte g l =
    let contents = g.W.Write.contents in
    GoesOn l.fn.self.line l.fn.self.map.entries (take l.byte-index l.bytes) (contents l.fn.writer) (contents l.writer) l.self.line l.self.map.entries
