use Rattle.std.proofs.Common.{◌≡◌, ◌*◌, None, position, take}
use Rattle.vecmap_base.proofs.unrolled.find_item_unrolled.Given as goal

abbrev pub invariant-loop-four : goal.invariant-loop-four
invariant-loop-four g l = position (g.Q.Equivalent.equivalent l.fn.query) (take (4 * l.four) l.items) ≡ None
