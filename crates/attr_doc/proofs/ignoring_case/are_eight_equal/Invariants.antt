use Rattle.std.{proofs.Common.{◌≡◌, ◌+◌, ◌&&◌, drop}, specs.Str.str_eq_ignore_ascii_case}
use Rattle.attr_doc.proofs.ignoring_case.are_eight_equal.Given as goal

abbrev pub invariant-loop-step : goal.invariant-loop-step
invariant-loop-step l = str_eq_ignore_ascii_case (drop l.from l.a) (drop l.from l.b) ≡ (l.same && str_eq_ignore_ascii_case (drop (l.from + l.step) l.a) (drop (l.from + l.step) l.b))
