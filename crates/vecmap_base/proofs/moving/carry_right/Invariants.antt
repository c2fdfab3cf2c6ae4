use Rattle.std.proofs.Common.{◌≡◌, insert, length}
use Rattle.vecmap_base.proofs.moving.carry_right.Given as goal

abbrev pub invariant-loop-at : goal.invariant-loop-at
invariant-loop-at g l = record {
  items : insert l.items l.at l.carried ≡ insert l.fn.items l.from l.fn.item;
  count : length l.items ≡ length l.fn.items;
}
