use Rattle.std.proofs.Common.{rules}
use Rattle.vecmap_base.proofs.PairsLemmas.AtIndices.{updates_at}
use Rattle.vecmap_map.proofs.indexing.VecMapIndexMutUsize.index_mut.Goals as goal

pub returns : goal.returns
returns g c = (search rules, record { writes_back = tt; value = search rules; updates = updates_at c.args.self.now.entries c.args.index })
