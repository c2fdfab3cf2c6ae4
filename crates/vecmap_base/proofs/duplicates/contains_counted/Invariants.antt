use Rattle.std.{specs.Set.is_member, proofs.Common.{◌≡◌, ◌+◌, false, take}}
use Rattle.vecmap_base.proofs.duplicates.contains_counted.Given as goal

abbrev pub invariant-loop-stored : goal.invariant-loop-stored
invariant-loop-stored g l = (l.steps ≡ l.initial.steps + l.stored-index) × (is_member g.T.PartialEq.eq (take l.stored-index l.front) l.item ≡ false)
