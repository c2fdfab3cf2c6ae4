use Rattle.std.{proofs.Common.{◌≡◌, ◌+◌, ◌≤◌, length}, specs.List.IsDistinct}
use Rattle.vecmap_base.specs.Items.{adds}
use Rattle.vecmap_set.proofs.VecSet.extend.Given as goal

abbrev pub invariant-loop-item : goal.invariant-loop-item
invariant-loop-item g l = record {
  can : (goal.iterator-loop-item g).can_next l.item-iterator;
  finite : (goal.iterator-loop-item g).is_finite l.item-iterator;
  elements : l.self.elements ≡ adds g.T.PartialEq.eq l.fn.self.elements l.yielded;
  distinct : IsDistinct g.T.PartialEq.eq l.self.elements;
  capacity : l.fn.self.capacity ≤ l.self.capacity;
  room : length l.self.elements + (goal.iterator-loop-item g).remaining l.item-iterator ≤ length l.fn.self.elements + (goal.iterator-loop-item g).remaining l.initial.item-iterator;
  stays : length l.fn.self.elements + (goal.iterator-loop-item g).remaining l.initial.item-iterator ≤ l.fn.self.capacity → l.self.capacity ≡ l.fn.self.capacity;
}
