use Rattle.vecmap_set.proofs.ReorderLemmas.{distinct_rearranged, items_reordered}
use Rattle.vecmap_set.proofs.VecSet.sort.Goals as goal

pub invariant_of-self : goal.invariant_of-self
invariant_of-self g c = distinct_rearranged _ g.met.T.Eq.laws _ _ c.sort.ensures.permutation c.self.invariant

pub returns-clause-reordered : goal.returns-clause-reordered
returns-clause-reordered g c = record { reordered = rw (← c.self.view_is) (items_reordered _ _ c.sort.ensures.permutation); distinct = invariant_of-self g c }
