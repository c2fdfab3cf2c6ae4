use Rattle.std.proofs.Common.{arith}
use Rattle.vecmap_base.proofs.PairsLemmas.{AtIndices.writes_by, ByIndex.by_index}
use Rattle.vecmap_map.proofs.VecMap.get_mut.Goals as goal

pub returns-in-Some : goal.returns-in-Some
returns-in-Some g c = (
  grind (arith, by_index),
  record {
    writes_back = tt;
    value = grind (arith, by_index);
    stored = grind (arith, by_index);
    writes = writes_by g.K.PartialEq.eq g.met.K.Eq.laws (g.Q.Equivalent.equivalent c.args.query) (g.met.Q.Equivalent.respects_eq c.args.query) c.args.self.now.entries;
    found = grind (arith, by_index);
  },
)
