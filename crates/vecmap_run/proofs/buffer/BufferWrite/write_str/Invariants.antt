use Rattle.std.{proofs.Common.{◌≡◌, take}, specs.Io.KnownBytes.Appends}
use Rattle.vecmap_run.specs.Print.{buffer_bytes}
use Rattle.vecmap_run.proofs.buffer.BufferWrite.write_str.Given as goal

-- What the buffer and its writer hold has grown by the bytes so far.
abbrev pub invariant-loop-byte : goal.invariant-loop-byte
invariant-loop-byte g l =
    let contents = g.W.Write.contents in
    record {
      writer : l.self.writer.ghost_name ≡ l.fn.self.writer.ghost_name;
      held : Appends (buffer_bytes contents l.fn.self) (buffer_bytes contents l.self) (take l.byte-index l.byte-items);
    }
