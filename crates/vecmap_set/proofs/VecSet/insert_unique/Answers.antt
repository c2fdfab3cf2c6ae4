use Rattle.std.proofs.Common.{rules}
use Rattle.vecmap_set.proofs.{SetInsertionLemmas.{adds_new_item, appends_item}, SetLemmas.distinct_changes}
use Rattle.vecmap_set.proofs.VecSet.insert_unique.Goals as goal

pub returns-clause-list : goal.returns-clause-list
returns-clause-list g c = appends_item c.args.self.now.elements _ c.args.item (search rules)

pub returns-clause-insertion : goal.returns-clause-insertion
returns-clause-insertion g c = adds_new_item g.T.PartialEq.eq g.met.T.Eq.laws c.args.self.now.elements _ (search (rules, distinct_changes)) c.args.item (returns-clause-list g c).elements c.requires.absent
