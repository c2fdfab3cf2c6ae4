use Rattle.std.{proofs.Common.{◌≡◌, ◌+◌, ◌≤◌, length}, specs.Map.Iter.deref}
use Rattle.vecmap_map.specs.MapBulk.{PutsClones}
use Rattle.vecmap_map.proofs.VecMap.extend_pairs.Given as goal

abbrev pub invariant-loop-pair : goal.invariant-loop-pair
invariant-loop-pair g l = record {
  can : (goal.iterator-loop-pair g).can_next l.pair-iterator;
  finite : (goal.iterator-loop-pair g).is_finite l.pair-iterator;
  puts : PutsClones g.K.PartialEq.eq g.K.Clone.is_clone g.V.Clone.is_clone deref l.fn.self l.yielded l.self;
  capacity : l.fn.self.capacity ≤ l.self.capacity;
  room : length l.self.entries + (goal.iterator-loop-pair g).remaining l.pair-iterator ≤ length l.fn.self.entries + (goal.iterator-loop-pair g).remaining l.initial.pair-iterator;
  stays : length l.fn.self.entries + (goal.iterator-loop-pair g).remaining l.initial.pair-iterator ≤ l.fn.self.capacity → l.self.capacity ≡ l.fn.self.capacity;
}
