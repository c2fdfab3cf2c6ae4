use Rattle.std.proofs.Common.{◌&&◌, ◌||◌, ap, not, refl}
use Rattle.vecmap_set.specs.{Lazy.{ExcludesFirst, symmetric_rest}, Operators.symmetric_difference_of}
use Rattle.vecmap_set.proofs.OperatorLemmas.{distinct_symmetric_difference, fits_symmetric_difference, is_member_symmetric_difference, operator_clones, with_members}
use Rattle.vecmap_set.proofs.operators.RefVecSetBitXor.bitxor.Goals as goal

pub returns : goal.returns
returns g c =
    let laws = g.met.T.Eq.laws in
    with_members g.T.PartialEq.eq laws (λ x y. (x && not y) || (y && not x)) (symmetric_difference_of g.T.PartialEq.eq) refl (is_member_symmetric_difference g.T.PartialEq.eq laws) (fits_symmetric_difference g.T.PartialEq.eq laws (λ x y. (x && not y) || (y && not x)) refl) c.requires
    (operator_clones (ExcludesFirst _) (symmetric_rest _) laws _ (distinct_symmetric_difference _ laws) (ap (symmetric_rest _) c.over-apart.ensures)
    c.as_slice.ensures.list c.as_slice-2.ensures.list c.as_slice.ensures.distinct c.as_slice-2.ensures.distinct c.requires c.in_ok-items.ensures (λ s r t h. h.0))

pub invariant_of-result : goal.invariant_of-result
invariant_of-result g c = (returns g c).0.1
