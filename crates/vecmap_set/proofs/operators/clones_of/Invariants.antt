use Rattle.std.{proofs.Common.map, specs.Map.Iter.deref}
use Rattle.vecmap_base.specs.Clones.{AreClones}
use Rattle.vecmap_set.proofs.operators.clones_of.Given as goal

abbrev pub invariant-loop-item : goal.invariant-loop-item
invariant-loop-item g l = record {
  can : (goal.iterator-loop-item g).can_next l.item-iterator;
  finite : (goal.iterator-loop-item g).is_finite l.item-iterator;
  cloned : AreClones g.T.Clone.is_clone (map deref l.yielded) l.made.items;
}
