use Rattle.std.proofs.Common.{◌≡◌, take, true}
use Rattle.vecmap_base.specs.Equality.{is_within}
use Rattle.vecmap_base.proofs.relations.is_subset_around.Given as goal

abbrev pub invariant-loop-at : goal.invariant-loop-at
invariant-loop-at g l = is_within g.T.PartialEq.eq (take l.at l.items) l.others ≡ true
