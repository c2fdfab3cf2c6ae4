use Rattle.std.{proofs.Common.{◌≡◌, false, take}, specs.List.list_any}
use Rattle.vecmap_base.proofs.unrolled.is_any_from.Given as goal

abbrev pub invariant-loop-index : goal.invariant-loop-index
invariant-loop-index g l = list_any (g.Q.Equivalent.equivalent l.fn.query) (take l.index l.items) ≡ false
