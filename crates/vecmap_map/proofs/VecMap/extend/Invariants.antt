use Rattle.std.proofs.Common.{◌≡◌, ◌+◌, ◌≤◌, length}
use Rattle.vecmap_base.specs.Pairs.{puts}
use Rattle.vecmap_map.proofs.VecMap.extend.Given as goal

abbrev pub invariant-loop-key : goal.invariant-loop-key
invariant-loop-key g l = record {
  can : (goal.iterator-loop-key g).can_next l.key-iterator;
  finite : (goal.iterator-loop-key g).is_finite l.key-iterator;
  entries : l.self.entries ≡ puts g.K.PartialEq.eq l.fn.self.entries l.yielded;
  capacity : l.fn.self.capacity ≤ l.self.capacity;
  room : length l.self.entries + (goal.iterator-loop-key g).remaining l.key-iterator ≤ length l.fn.self.entries + (goal.iterator-loop-key g).remaining l.initial.key-iterator;
  stays : length l.fn.self.entries + (goal.iterator-loop-key g).remaining l.initial.key-iterator ≤ l.fn.self.capacity → l.self.capacity ≡ l.fn.self.capacity;
}
