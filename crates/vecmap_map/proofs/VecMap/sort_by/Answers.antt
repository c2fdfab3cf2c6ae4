use Rattle.std.proofs.lemmas.{Fn.always_returns_same, Result.on_ok_weaker}
use Rattle.vecmap_base.proofs.PairsLemmas.Reordered.{reordered}
use Rattle.vecmap_map.proofs.VecMap.sort_by.Goals as goal

pub returns-clause-sorted : goal.returns-clause-sorted
returns-clause-sorted g c =
    on_ok_weaker c.sort_by.result (λ h lt order by. h lt order (always_returns_same _ _ _ (λ a r f' k. (k.met.1 lt by, λ j. record { 0 = k.met.0 j })))) c.sort_by.ensures.sorted

pub returns-clause-stable : goal.returns-clause-stable
returns-clause-stable g c = λ lt order by.
    rw (← c.self.view_is) (c.sort_by.ensures.stable lt order (always_returns_same _ _ _ (λ a r f' k. (k.met.1 lt by, λ j. record { 0 = k.met.0 j }))))

pub returns-clause-reordered : goal.returns-clause-reordered
returns-clause-reordered g c = rw (← c.self.view_is) (reordered _ _ c.sort_by.ensures.permutation)
