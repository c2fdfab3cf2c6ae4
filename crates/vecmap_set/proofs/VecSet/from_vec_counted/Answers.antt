use Rattle.std.proofs.Common.{[]}
use Rattle.vecmap_base.proofs.DistinctLemmas.{distinct_none}
use Rattle.vecmap_set.proofs.MemberLemmas.{adds_items}
use Rattle.vecmap_set.proofs.VecSet.from_vec_counted.Goals as goal

pub returns-clause-insertion : goal.returns-clause-insertion
returns-clause-insertion g c = adds_items g.T.PartialEq.eq g.met.T.Eq.laws [] c.args.items.items _ (distinct_none g.T.PartialEq.eq) c.dedup_keep_first.ensures.list
