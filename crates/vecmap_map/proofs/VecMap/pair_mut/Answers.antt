use Rattle.std.proofs.Common.{refl, rules}
use Rattle.vecmap_base.proofs.PairsLemmas.AtIndices.{updates_at}
use Rattle.vecmap_map.proofs.VecMap.pair_mut.Goals as goal

pub returns : goal.returns
returns g c = (
  (refl, λ w. refl),
  record {
    writes_back = tt;
    item = search rules;
    updates = updates_at c.args.self.now.entries c.args.index;
  },
)
