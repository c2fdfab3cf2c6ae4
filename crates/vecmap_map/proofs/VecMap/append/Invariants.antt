use Rattle.std.{proofs.Common.{◌≡◌, ◌+◌, ◌≤◌, ◌++◌, length}, specs.Vec.Iter.drain_items}
use Rattle.vecmap_base.specs.Pairs.{puts}
use Rattle.vecmap_map.proofs.VecMap.append.Given as goal

abbrev pub invariant-loop-key : goal.invariant-loop-key
invariant-loop-key g l = record {
  entries : l.self.entries ≡ puts g.K.PartialEq.eq l.fn.self.entries l.yielded;
  rest : l.fn.other.entries ≡ l.yielded ++ drain_items l.key-iterator;
  room : length l.self.entries + length (drain_items l.key-iterator) ≤ l.self.capacity;
  capacity : l.fn.self.capacity ≤ l.self.capacity;
  stays : length l.fn.self.entries + length l.fn.other.entries ≤ l.fn.self.capacity → l.self.capacity ≡ l.fn.self.capacity;
}
