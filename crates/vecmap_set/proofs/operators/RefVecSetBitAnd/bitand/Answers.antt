use Rattle.std.{proofs.Common.{◌&&◌, ap, refl}, specs.Set.is_member}
use Rattle.vecmap_set.specs.Lazy.{FiltersFirst, filtered_rest}
use Rattle.vecmap_set.proofs.OperatorLemmas.{distinct_both, fits_both, is_member_both, operator_clones, with_members}
use Rattle.vecmap_base.specs.Items.{both}
use Rattle.vecmap_set.proofs.operators.RefVecSetBitAnd.bitand.Goals as goal

pub returns : goal.returns
returns g c =
    let eq = g.T.PartialEq.eq in
    let laws = g.met.T.Eq.laws in
    with_members g.T.PartialEq.eq laws (λ x y. x && y) (both g.T.PartialEq.eq) refl (is_member_both g.T.PartialEq.eq laws) (fits_both g.T.PartialEq.eq laws (λ x y. x && y)) c.requires
    (operator_clones (FiltersFirst _) (filtered_rest (is_member eq)) laws _ (λ a b apart _. distinct_both _ laws a b apart) (ap (filtered_rest (is_member eq)) c.over-shared.ensures.0)
    c.as_slice.ensures.list c.as_slice-2.ensures.list c.as_slice.ensures.distinct c.as_slice-2.ensures.distinct c.requires c.in_ok-items.ensures (λ s r t h. h.0))

pub invariant_of-result : goal.invariant_of-result
invariant_of-result g c = (returns g c).0.1
