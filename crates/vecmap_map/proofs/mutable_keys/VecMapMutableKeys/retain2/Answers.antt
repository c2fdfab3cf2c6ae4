use Rattle.std.proofs.Common.{rules}
use Rattle.vecmap_base.{specs.FnMutCalls.CallsAtPairMut, proofs.PairsLemmas.Retained.retains}
use Rattle.vecmap_map.proofs.mutable_keys.VecMapMutableKeys.retain2.Goals as goal

pub returns-clause-left : goal.returns-clause-left
returns-clause-left g c = retains (CallsAtPairMut g.F.FnMut) c.args.f c.args.self.now.entries _ (search rules)
