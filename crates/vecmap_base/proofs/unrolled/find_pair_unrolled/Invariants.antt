use Rattle.std.proofs.Common.{◌≡◌, ◌*◌, None, position, take}
use Rattle.vecmap_base.proofs.unrolled.find_pair_unrolled.Given as goal

abbrev pub invariant-loop-two : goal.invariant-loop-two
invariant-loop-two g l = position (λ pair. g.Q.Equivalent.equivalent l.fn.query pair.0) (take (2 * l.two) l.pairs) ≡ None
