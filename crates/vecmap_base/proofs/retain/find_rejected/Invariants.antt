use Rattle.std.specs.Prelude.{◌≡◌, vec_capacity}
use Rattle.vecmap_base.specs.Kept.{KeptSoFar}
use Rattle.vecmap_base.proofs.retain.find_rejected.Given as goal

abbrev pub invariant-loop-i : goal.invariant-loop-i
invariant-loop-i g l = record {
  kept : KeptSoFar g.A.Predicate.step l.initial.asked l.asked l.initial.items.items l.items.items l.i l.i;
  capacity : vec_capacity l.items ≡ vec_capacity l.initial.items;
}
