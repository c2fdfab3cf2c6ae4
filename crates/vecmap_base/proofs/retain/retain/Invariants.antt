use Rattle.std.specs.Prelude.{◌≡◌, ◌<◌, vec_capacity}
use Rattle.vecmap_base.specs.Kept.{KeptSoFar}
use Rattle.vecmap_base.proofs.retain.retain.Given as goal

abbrev pub invariant-loop-i : goal.invariant-loop-i
invariant-loop-i g l = record {
  kept : KeptSoFar g.A.Predicate.step l.fn.asked l.asked l.fn.items.items l.items.items l.kept l.i;
  order : l.kept < l.i;
  capacity : vec_capacity l.items ≡ vec_capacity l.fn.items;
}
