use Rattle.vecmap_set.proofs.SetIndexLemmas.{item_of_read}
use Rattle.vecmap_set.proofs.VecSet.get_index.Goals as goal

pub returns-clause-at : goal.returns-clause-at
returns-clause-at g c =
    let read = c.get.ensures.lookup in
    rw (← c.self.view_is, ← c.deref.ensures.value)
    (item_of_read g.T.PartialEq.eq g.met.T.Eq.laws c.deref.result.now (rw c.deref.ensures.value c.self.invariant) c.args.index c.get.result read.0 read.1)
