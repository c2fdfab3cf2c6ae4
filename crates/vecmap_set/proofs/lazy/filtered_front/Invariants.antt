use Rattle.std.{proofs.Common.{◌≡◌, length}, specs.{List.{after_first, filter}, Slice.Iter.iter_rest}}
use Rattle.vecmap_set.specs.Lazy.{presence}
use Rattle.vecmap_set.proofs.lazy.filtered_front.Given as goal

abbrev pub invariant-loop-item : goal.invariant-loop-item
invariant-loop-item g l =
    let kept = presence g.T.PartialEq.eq l.within l.other in
    (filter kept (iter_rest l.fn.items) ≡ filter kept (iter_rest l.items)) × (after_first kept (iter_rest l.fn.items) ≡ after_first kept (iter_rest l.items))

abbrev pub decreases-loop-item : goal.decreases-loop-item
decreases-loop-item g l = length (iter_rest l.items)
