use Rattle.std.proofs.Common.{◌≡◌, None, position, take}
use Rattle.vecmap_base.proofs.lookup.find_by_loop.Given as goal

abbrev pub invariant-loop-index : goal.invariant-loop-index
invariant-loop-index g l = position (λ pair. g.Q.Equivalent.equivalent l.fn.query pair.0) (take l.index l.pairs) ≡ None
