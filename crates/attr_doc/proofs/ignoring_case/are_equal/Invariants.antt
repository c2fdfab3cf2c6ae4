use Rattle.std.{proofs.Common.{◌≡◌, ◌*◌, drop}, specs.Str.str_eq_ignore_ascii_case}
use Rattle.attr_doc.proofs.ignoring_case.are_equal.Given as goal

abbrev pub invariant-loop-block : goal.invariant-loop-block
invariant-loop-block l = str_eq_ignore_ascii_case l.a l.b ≡ str_eq_ignore_ascii_case (drop (8 * l.block) l.a) (drop (8 * l.block) l.b)

abbrev pub invariant-loop-at : goal.invariant-loop-at
invariant-loop-at l = str_eq_ignore_ascii_case l.a l.b ≡ str_eq_ignore_ascii_case (drop l.at l.a) (drop l.at l.b)
