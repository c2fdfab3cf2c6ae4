use Rattle.std.{proofs.Common.{◌≡◌, [], List, take}, specs.List.IsDistinct}
use Rattle.vecmap_base.specs.{Clones.AreClones, Items.adds}
use Rattle.vecmap_set.proofs.VecSet.from_slice.Given as goal

abbrev pub invariant-loop-item : goal.invariant-loop-item
invariant-loop-item g l = record {
  elements : (clones : List g.row.T.Denot) × AreClones g.T.Clone.is_clone (take l.item-index l.items) clones × (l.set.elements ≡ adds g.T.PartialEq.eq [] clones);
  distinct : IsDistinct g.T.PartialEq.eq l.set.elements;
}
