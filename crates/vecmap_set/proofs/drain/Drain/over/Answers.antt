use Rattle.vecmap_base.proofs.{DistinctLemmas.distinct_rearranged, DrainLemmas.{drained_rearranged, drains_in_order, drains_in_reverse}}
use Rattle.vecmap_set.specs.SetDrain.{DrainKeeps, drain_rest}
use Rattle.vecmap_set.proofs.drain.Drain.over.Goals as goal

pub returns-then-end-len-clause-runs : goal.returns-then-end-len-clause-runs
returns-then-end-len-clause-runs g c = drains_in_order drain_rest DrainKeeps

pub returns-then-end-len-clause-runs_back : goal.returns-then-end-len-clause-runs_back
returns-then-end-len-clause-runs_back g c = drains_in_reverse drain_rest DrainKeeps

pub returns-clause-runs : goal.returns-clause-runs
returns-clause-runs g c = drains_in_order drain_rest DrainKeeps

pub returns-clause-runs_back : goal.returns-clause-runs_back
returns-clause-runs_back g c = drains_in_reverse drain_rest DrainKeeps

pub invariant_of-set : goal.invariant_of-set
invariant_of-set g c =
    let moved = drained_rearranged c.set.inside.items.items c.args.start c.args.end c.requires.within.0 in
    rw c.move_range_last-keep.ensures.list (distinct_rearranged _ g.met.T.Eq.laws _ _ moved c.set.invariant)
