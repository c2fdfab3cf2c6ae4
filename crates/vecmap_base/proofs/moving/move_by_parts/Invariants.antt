use Rattle.std.proofs.Common.{◌≡◌, ◌-◌, ◌<◌, length, remove, slice_get}
use Rattle.vecmap_base.proofs.moving.move_by_parts.Given as goal

abbrev pub invariant-loop-items : goal.invariant-loop-items
invariant-loop-items g l = record {
  within : l.at < length l.items;
  item : slice_get l.items l.at ≡ slice_get l.fn.items l.from;
  items : remove l.items l.at ≡ remove l.fn.items l.from;
}

abbrev pub decreases-loop-items : goal.decreases-loop-items
decreases-loop-items g l = length l.items - l.at
