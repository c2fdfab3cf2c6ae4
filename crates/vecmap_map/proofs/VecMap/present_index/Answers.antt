use Rattle.vecmap_base.proofs.PairsLemmas.AtIndices.{writes_by}
use Rattle.vecmap_map.proofs.VecMap.present_index.Goals as goal

pub returns-clause-writes : goal.returns-clause-writes
returns-clause-writes g c = writes_by g.K.PartialEq.eq g.met.K.Eq.laws (g.Q.Equivalent.equivalent c.args.query) (g.met.Q.Equivalent.respects_eq c.args.query) c.args.self.now.entries
