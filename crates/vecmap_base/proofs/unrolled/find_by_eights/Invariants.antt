use Rattle.std.proofs.Common.{◌≡◌, ◌*◌, None, position, take}
use Rattle.vecmap_base.proofs.unrolled.find_by_eights.Given as goal

abbrev pub invariant-loop-eight : goal.invariant-loop-eight
invariant-loop-eight g l = position (g.Q.Equivalent.equivalent l.fn.query) (take (8 * l.eight) l.items) ≡ None
