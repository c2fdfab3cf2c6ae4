use Rattle.std.{proofs.Common.{◌≡◌, ◌+◌, ◌≤◌, ◌++◌}, specs.Vec.{vec_len, vec_capacity, Iter.{into_iter_items, into_iter_len}}}
use Rattle.vecmap.specs.MapRun.{Run}
use Rattle.vecmap.proofs.map_run.run.Given as goal

abbrev pub invariant-loop-command : goal.invariant-loop-command
invariant-loop-command g l = record {
  run : Run g.K.PartialEq.eq g.V.PartialEq.eq g.K.Clone g.V.Clone l.fn.map l.yielded l.replies.items l.map;
  rest : l.fn.commands.items ≡ l.yielded ++ into_iter_items l.command-iterator;
  room : vec_len l.replies + into_iter_len l.command-iterator ≤ vec_capacity l.replies;
}
