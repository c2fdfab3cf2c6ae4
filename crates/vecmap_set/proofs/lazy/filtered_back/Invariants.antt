use Rattle.std.{proofs.Common.{◌≡◌, length}, specs.{List.{before_last, filter}, Slice.Iter.iter_rest}}
use Rattle.vecmap_set.specs.Lazy.{presence}
use Rattle.vecmap_set.proofs.lazy.filtered_back.Given as goal

abbrev pub invariant-loop-item : goal.invariant-loop-item
invariant-loop-item g l =
    let kept = presence g.T.PartialEq.eq l.within l.other in
    (filter kept (iter_rest l.fn.items) ≡ filter kept (iter_rest l.items)) × (before_last kept (iter_rest l.fn.items) ≡ before_last kept (iter_rest l.items))

abbrev pub decreases-loop-item : goal.decreases-loop-item
decreases-loop-item g l = length (iter_rest l.items)
