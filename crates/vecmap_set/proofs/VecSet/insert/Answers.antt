use Rattle.std.proofs.Common.{arith, rules}
use Rattle.vecmap_base.proofs.ItemsLemmas.Additions.{add_present}
use Rattle.vecmap_set.proofs.SetInsertionLemmas.{adds_item}
use Rattle.vecmap_set.proofs.VecSet.insert.Goals as goal

pub returns-then-contains_item_inline-clause-insertion : goal.returns-then-contains_item_inline-clause-insertion
returns-then-contains_item_inline-clause-insertion g c = adds_item g.T.PartialEq.eq g.met.T.Eq.laws c.args.self.now.elements _ (search rules) c.args.item (grind (arith, add_present))
