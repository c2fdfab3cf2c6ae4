use Rattle.std.proofs.Common.{rules}
use Rattle.vecmap_set.proofs.ReorderLemmas.{distinct_reverse, reverses_items}
use Rattle.vecmap_set.proofs.VecSet.reverse.Goals as goal

pub returns-clause-reordered : goal.returns-clause-reordered
returns-clause-reordered g c = reverses_items g.T.PartialEq.eq g.met.T.Eq.laws c.args.self.now.elements _ (search (rules, distinct_reverse)) (search rules)
