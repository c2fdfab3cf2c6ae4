use Rattle.std.proofs.Common.{Some, rules}
use Rattle.vecmap_set.proofs.{SetRemovalLemmas.{finds_item, removes_item_by}}
use Rattle.vecmap_set.proofs.VecSet.take.Goals as goal

pub returns-in_err-index-clause-item : goal.returns-in_err-index-clause-item
returns-in_err-index-clause-item g c = finds_item (g.Q.Equivalent.equivalent c.args.query) c.args.self.now.elements _ (search rules)

pub returns-in_err-index-clause-removal : goal.returns-in_err-index-clause-removal
returns-in_err-index-clause-removal g c =
    removes_item_by g.T.PartialEq.eq g.met.T.Eq.laws (g.Q.Equivalent.equivalent c.args.query) (g.met.Q.Equivalent.respects_eq c.args.query) c.args.self.now.elements _ (search rules) (search rules)

pub returns-clause-item : goal.returns-clause-item
returns-clause-item g c = finds_item (g.Q.Equivalent.equivalent c.args.query) c.args.self.now.elements (Some c.remove_index.result) (search rules)

pub returns-clause-removal : goal.returns-clause-removal
returns-clause-removal g c =
    removes_item_by g.T.PartialEq.eq g.met.T.Eq.laws (g.Q.Equivalent.equivalent c.args.query) (g.met.Q.Equivalent.respects_eq c.args.query) c.args.self.now.elements _ (search rules) (search rules)
