use Rattle.std.proofs.lemmas.Fn.{always_returns_same}
use Rattle.vecmap_base.proofs.PairsLemmas.Reordered.{reordered}
use Rattle.vecmap_map.proofs.VecMap.sort_unstable_by.Goals as goal

pub returns-clause-sorted : goal.returns-clause-sorted
returns-clause-sorted g c = λ lt order by.
    c.sort_unstable_by.ensures.sorted lt order (always_returns_same _ _ _ (λ a r f' k. (k.met.1 lt by, λ j. record { 0 = k.met.0 j })))

pub returns-clause-reordered : goal.returns-clause-reordered
returns-clause-reordered g c = rw (← c.self.view_is) (reordered _ _ c.sort_unstable_by.ensures.permutation)
