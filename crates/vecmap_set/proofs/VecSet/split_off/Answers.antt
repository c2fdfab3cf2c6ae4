use Rattle.std.proofs.Common.{rules}
use Rattle.vecmap_set.proofs.SetRemovalLemmas.{splits_items}
use Rattle.vecmap_set.proofs.VecSet.split_off.Goals as goal

pub returns-clause-split : goal.returns-clause-split
returns-clause-split g c = splits_items g.T.PartialEq.eq g.met.T.Eq.laws c.args.self.now.elements _ (search rules) c.args.at _ c.requires.within (search rules) (search rules)
