use Rattle.std.proofs.Common.{arith}
use Rattle.vecmap_base.proofs.{PairsLemmas.ByIndex.{by_index, pair_found, swapped_out}, RemovalLemmas.{finds_pair, swap_removes_by}}
use Rattle.vecmap_map.proofs.VecMap.swap_remove_entry.Goals as goal

pub returns-in_err-index-clause-removal : goal.returns-in_err-index-clause-removal
returns-in_err-index-clause-removal g c = swap_removes_by (g.Q.Equivalent.equivalent c.args.query) _ g.K.PartialEq.eq g.met.K.Eq.laws (g.met.Q.Equivalent.respects_eq c.args.query) _ (grind (arith, by_index))

pub returns-clause-item : goal.returns-clause-item
returns-clause-item g c = finds_pair (g.Q.Equivalent.equivalent c.args.query) _ _ (grind (arith, pair_found (g.Q.Equivalent.equivalent c.args.query) c.args.self.now.entries c.in_ok-index.index c.swap_remove.result))

pub returns-clause-removal : goal.returns-clause-removal
returns-clause-removal g c =
    swap_removes_by (g.Q.Equivalent.equivalent c.args.query) _ g.K.PartialEq.eq g.met.K.Eq.laws (g.met.Q.Equivalent.respects_eq c.args.query) _
    (grind (arith, swapped_out (g.Q.Equivalent.equivalent c.args.query) c.args.self.now.entries c.in_ok-index.index c.swap_remove.result))
