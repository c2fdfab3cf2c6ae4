use Rattle.vecmap_base.{specs.FnMutCalls.CallsAtPairMut, proofs.PairsLemmas.Retained.retains_pairs}
use Rattle.vecmap_base.proofs.retain.retain_pairs_mut.Goals as goal

pub returns-clause-selection : goal.returns-clause-selection
returns-clause-selection g c same = retains_pairs (CallsAtPairMut g.F.FnMut) same c.args.f _ _ c.retain.ensures.retained
