use Rattle.std.proofs.{Common.{arith, rules}, lemmas.Option.gets}
use Rattle.vecmap_set.proofs.{SetIndexLemmas.items_shift, SetRemovalLemmas.removes_item_at}
use Rattle.vecmap_set.proofs.VecSet.remove_index.Goals as goal

pub returns-clause-removal : goal.returns-clause-removal
returns-clause-removal g c = removes_item_at g.T.PartialEq.eq g.met.T.Eq.laws c.args.self.now.elements _ (search rules) c.args.index c.remove_item.result (grind (arith, gets)) (grind (arith, gets))

pub returns-clause-indices : goal.returns-clause-indices
returns-clause-indices g c = items_shift c.args.self.now.elements _ c.args.index (returns-clause-removal g c).elements
