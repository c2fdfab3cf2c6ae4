use Rattle.std.{proofs.Common.{◌≡◌, ◌+◌, ◌≤◌, length}, specs.Map.Iter.deref_pair}
use Rattle.vecmap_map.specs.MapBulk.{PutsClones}
use Rattle.vecmap_map.proofs.VecMap.extend_refs.Given as goal

abbrev pub invariant-loop-key : goal.invariant-loop-key
invariant-loop-key g l = record {
  can : (goal.iterator-loop-key g).can_next l.key-iterator;
  finite : (goal.iterator-loop-key g).is_finite l.key-iterator;
  puts : PutsClones g.K.PartialEq.eq g.K.Clone.is_clone g.V.Clone.is_clone deref_pair l.fn.self l.yielded l.self;
  capacity : l.fn.self.capacity ≤ l.self.capacity;
  room : length l.self.entries + (goal.iterator-loop-key g).remaining l.key-iterator ≤ length l.fn.self.entries + (goal.iterator-loop-key g).remaining l.initial.key-iterator;
  stays : length l.fn.self.entries + (goal.iterator-loop-key g).remaining l.initial.key-iterator ≤ l.fn.self.capacity → l.self.capacity ≡ l.fn.self.capacity;
}
