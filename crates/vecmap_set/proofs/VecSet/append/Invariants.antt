use Rattle.std.{proofs.Common.{◌≡◌, ◌+◌, ◌≤◌, ◌++◌, length}, specs.{List.IsDistinct, Vec.Iter.drain_items}}
use Rattle.vecmap_base.specs.Items.{adds}
use Rattle.vecmap_set.proofs.VecSet.append.Given as goal

abbrev pub invariant-loop-item : goal.invariant-loop-item
invariant-loop-item g l = record {
  elements : l.self.elements ≡ adds g.T.PartialEq.eq l.fn.self.elements l.yielded;
  long : length l.fn.self.elements ≤ length l.self.elements;
  distinct : IsDistinct g.T.PartialEq.eq l.self.elements;
  rest : l.fn.other.elements ≡ l.yielded ++ drain_items l.item-iterator;
  room : length l.self.elements + length (drain_items l.item-iterator) ≤ l.self.capacity;
  capacity : l.fn.self.capacity ≤ l.self.capacity;
  stays : length l.fn.self.elements + length l.fn.other.elements ≤ l.fn.self.capacity → l.self.capacity ≡ l.fn.self.capacity;
}
