use Rattle.std.proofs.Common.{◌≡◌, ◌+◌, None, position, take}
use Rattle.vecmap_base.proofs.duplicates.find_counted.Given as goal

abbrev pub invariant-loop-index : goal.invariant-loop-index
invariant-loop-index g l = (l.steps ≡ l.initial.steps + l.index) × (position (λ p. g.K.PartialEq.eq l.key p.0) (take l.index l.front) ≡ None)
