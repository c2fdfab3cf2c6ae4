use Rattle.std.{proofs.Common.{◌↔◌, drop}, specs.{List.IsDistinct, Map.keys_of}}
use Rattle.vecmap_base.proofs.distinct.keys_distinct.Given as goal

abbrev pub invariant-loop-i : goal.invariant-loop-i
invariant-loop-i g l = IsDistinct g.K.PartialEq.eq (drop l.i (keys_of l.pairs)) ↔ IsDistinct g.K.PartialEq.eq (keys_of l.pairs)
