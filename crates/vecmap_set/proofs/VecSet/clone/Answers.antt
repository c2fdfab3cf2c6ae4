use Rattle.vecmap_set.proofs.MemberLemmas.{copies_items}
use Rattle.vecmap_set.proofs.VecSet.clone.Goals as goal

pub returns : goal.returns
returns g c =
    let same = rw (← c.self.view_is) at c.requires.clones_equal in
    let copy = copies_items g.T.PartialEq.eq g.met.T.Eq.laws g.T.Clone.is_clone _ _ same c.in_ok-clone.ensures.cases.0 c.self.invariant in
    record { copy = rw (← c.self.view_is) copy }

pub invariant_of-result : goal.invariant_of-result
invariant_of-result g c = (returns g c).copy.distinct
