use Rattle.std.proofs.{Common.{[], rules}, lemmas.Result.IfOk-weaker}
use Rattle.vecmap_base.proofs.DistinctLemmas.{distinct_none}
use Rattle.vecmap_set.proofs.MemberLemmas.{adds_items}
use Rattle.vecmap_set.proofs.bulk.VecSetFromIterator.from_iter.Goals as goal

pub returns : goal.returns
returns g c =
    let eq = g.T.PartialEq.eq in
    record { ran = IfOk-weaker c.from_iter.result _ _ (λ set made. let added = adds_items eq g.met.T.Eq.laws [] made.1 set.elements (distinct_none eq) made.4 in (made.0, made.1, made.2, search (rules, made.3), (added, added.distinct))) c.from_iter.ensures.list }
