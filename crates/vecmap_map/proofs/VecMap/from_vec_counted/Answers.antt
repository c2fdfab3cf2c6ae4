use Rattle.vecmap_base.proofs.PairsLemmas.ManyPairs.{makes_pairs}
use Rattle.vecmap_map.proofs.VecMap.from_vec_counted.Goals as goal

pub returns-clause-insertion : goal.returns-clause-insertion
returns-clause-insertion g c = makes_pairs g.K.PartialEq.eq g.met.K.Eq.laws c.args.pairs.items _ c.dedup_keep_last_value.ensures.list
