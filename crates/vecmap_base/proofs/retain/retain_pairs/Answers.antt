use Rattle.vecmap_base.{specs.FnMutCalls.CallsAtPair, proofs.PairsLemmas.Retained.retains_pairs}
use Rattle.vecmap_base.proofs.retain.retain_pairs.Goals as goal

pub returns-clause-selection : goal.returns-clause-selection
returns-clause-selection g c = retains_pairs (CallsAtPair g.F.FnMut) (λ f p b q s call. call.1) c.args.f _ _ c.retain.ensures.retained
