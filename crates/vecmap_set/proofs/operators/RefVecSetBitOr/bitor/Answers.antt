use Rattle.std.proofs.Common.{◌||◌, ap, refl}
use Rattle.vecmap_set.specs.{Lazy.{JoinsFirst, union_rest}, Operators.union_of}
use Rattle.vecmap_set.proofs.OperatorLemmas.{distinct_union, fits_union, is_member_union, operator_clones, with_members}
use Rattle.vecmap_set.proofs.operators.RefVecSetBitOr.bitor.Goals as goal

pub returns : goal.returns
returns g c =
    let laws = g.met.T.Eq.laws in
    with_members g.T.PartialEq.eq laws (λ x y. x || y) (union_of g.T.PartialEq.eq) refl (is_member_union g.T.PartialEq.eq laws) (fits_union g.T.PartialEq.eq laws (λ x y. x || y) refl) c.requires
    (operator_clones (JoinsFirst _) (union_rest _) laws _ (distinct_union _ laws) (ap (union_rest _) c.over-all.ensures)
    c.as_slice.ensures.list c.as_slice-2.ensures.list c.as_slice.ensures.distinct c.as_slice-2.ensures.distinct c.requires c.in_ok-items.ensures (λ s r t h. h.0))

pub invariant_of-result : goal.invariant_of-result
invariant_of-result g c = (returns g c).0.1
