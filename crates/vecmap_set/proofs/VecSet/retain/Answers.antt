use Rattle.std.proofs.{Common.{arith, false, true}, lemmas.Grind.common_steps}
use Rattle.vecmap_base.{specs.FnMutCalls.CallsAtItem, proofs.DistinctLemmas.distinct_kept}
use Rattle.vecmap_set.proofs.SetRemovalLemmas.{retains_items}
use Rattle.vecmap_set.proofs.VecSet.retain.Goals as goal

pub invariant_of-self : goal.invariant_of-self
invariant_of-self g c =
    let kept = c.retain_items.ensures.retained in
    distinct_kept _ (CallsAtItem g.F.FnMut) (λ f h x y b call. call.1) c.args.f kept.0 _ _ kept.1 c.self.invariant

pub returns-clause-selection : goal.returns-clause-selection
returns-clause-selection g c =
    rw (← c.self.view_is) (retains_items g.T.PartialEq.eq (CallsAtItem g.F.FnMut) (λ f x b y h call. call.1) c.args.f _ _ c.self.invariant c.retain_items.ensures.retained)

pub returns-clause-stays : goal.returns-clause-stays
returns-clause-stays g c test told = let fact = (returns-clause-selection g c).matches test true told in grind (arith, common_steps, fact)

pub returns-clause-gone : goal.returns-clause-gone
returns-clause-gone g c test told = let fact = (returns-clause-selection g c).matches test false told in grind (arith, common_steps, fact)
