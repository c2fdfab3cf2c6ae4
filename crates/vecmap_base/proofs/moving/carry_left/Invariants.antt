use Rattle.std.proofs.Common.{◌≡◌, ◌-◌, insert, length}
use Rattle.vecmap_base.proofs.moving.carry_left.Given as goal

abbrev pub invariant-loop-step : goal.invariant-loop-step
invariant-loop-step g l = record {
  items : insert l.items (l.end - l.step) l.carried ≡ insert l.fn.items l.end l.fn.item;
  count : length l.items ≡ length l.fn.items;
}
