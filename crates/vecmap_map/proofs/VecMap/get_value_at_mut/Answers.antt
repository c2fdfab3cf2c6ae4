use Rattle.std.proofs.{Common.{arith, refl, rules}, lemmas.Option.gets}
use Rattle.vecmap_base.proofs.PairsLemmas.AtIndices.{updates_at}
use Rattle.vecmap_map.proofs.VecMap.get_value_at_mut.Goals as goal

pub returns-then-len-index : goal.returns-then-len-index
returns-then-len-index g c = (
  refl,
  record {
    writes_back = tt;
    value = grind (arith, gets);
    updates = updates_at c.args.self.now.entries c.args.index;
    found = search rules;
  },
)

pub returns : goal.returns
returns g c = (
  refl,
  record {
    writes_back = tt;
    value = search rules;
    updates = updates_at c.args.self.now.entries c.args.index;
    found = search rules;
  },
)
