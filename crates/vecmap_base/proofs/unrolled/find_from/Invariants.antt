use Rattle.std.proofs.Common.{◌≡◌, None, position, take}
use Rattle.vecmap_base.proofs.unrolled.find_from.Given as goal

abbrev pub invariant-loop-index : goal.invariant-loop-index
invariant-loop-index g l = position (g.Q.Equivalent.equivalent l.fn.query) (take l.index l.items) ≡ None
