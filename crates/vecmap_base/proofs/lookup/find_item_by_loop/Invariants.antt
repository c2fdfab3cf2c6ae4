use Rattle.std.proofs.Common.{◌≡◌, None, position, take}
use Rattle.vecmap_base.proofs.lookup.find_item_by_loop.Given as goal

abbrev pub invariant-loop-index : goal.invariant-loop-index
invariant-loop-index g l = position (g.Q.Equivalent.equivalent l.fn.query) (take l.index l.items) ≡ None
