use Rattle.vecmap_base.proofs.EqualityLemmas.Sets.{apart_by_walk, apart_by_walk_turned}
use Rattle.vecmap_base.proofs.relations.are_disjoint.Goals as goal

pub returns-clause-disjoint : goal.returns-clause-disjoint
returns-clause-disjoint g c = apart_by_walk _ g.met.T.Eq.laws c.args.items.now c.args.others.now c.overlap.result c.overlap.ensures

pub returns-clause-from_other_side : goal.returns-clause-from_other_side
returns-clause-from_other_side g c = apart_by_walk_turned _ g.met.T.Eq.laws c.args.items.now c.args.others.now c.overlap.result c.overlap.ensures
