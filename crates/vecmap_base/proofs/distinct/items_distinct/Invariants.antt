use Rattle.std.{proofs.Common.{◌↔◌, drop}, specs.List.IsDistinct}
use Rattle.vecmap_base.proofs.distinct.items_distinct.Given as goal

abbrev pub invariant-loop-i : goal.invariant-loop-i
invariant-loop-i g l = IsDistinct g.T.PartialEq.eq (drop l.i l.items) ↔ IsDistinct g.T.PartialEq.eq l.items
