use Rattle.std.proofs.Common.{◌&&◌, ap, not, refl}
use Rattle.vecmap_set.specs.Lazy.{FiltersFirst, filtered_rest, lacks_item}
use Rattle.vecmap_base.specs.Items.{only}
use Rattle.vecmap_set.proofs.OperatorLemmas.{distinct_only, fits_only, is_member_only, operator_clones, with_members}
use Rattle.vecmap_set.proofs.operators.RefVecSetSub.sub.Goals as goal

pub returns : goal.returns
returns g c =
    let eq = g.T.PartialEq.eq in
    let laws = g.met.T.Eq.laws in
    with_members g.T.PartialEq.eq laws (λ x y. x && not y) (only g.T.PartialEq.eq) refl (is_member_only g.T.PartialEq.eq laws) (fits_only g.T.PartialEq.eq laws (λ x y. x && not y)) c.requires
    (operator_clones (FiltersFirst _) (filtered_rest (lacks_item eq)) laws _ (λ a b apart _. distinct_only _ laws a b apart) (ap (filtered_rest (lacks_item eq)) c.over-left.ensures.0)
    c.as_slice.ensures.list c.as_slice-2.ensures.list c.as_slice.ensures.distinct c.as_slice-2.ensures.distinct c.requires c.in_ok-items.ensures (λ s r t h. h.0))

pub invariant_of-result : goal.invariant_of-result
invariant_of-result g c = (returns g c).0.1
