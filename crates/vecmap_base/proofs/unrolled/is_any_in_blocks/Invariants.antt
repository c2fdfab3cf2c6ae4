use Rattle.std.{proofs.Common.{◌≡◌, ◌*◌, false, take}, specs.List.list_any}
use Rattle.vecmap_base.proofs.unrolled.is_any_in_blocks.Given as goal

abbrev pub invariant-loop-eight : goal.invariant-loop-eight
invariant-loop-eight g l = list_any (g.Q.Equivalent.equivalent l.fn.query) (take (8 * l.eight) l.items) ≡ false
