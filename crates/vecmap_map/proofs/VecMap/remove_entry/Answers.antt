use Rattle.std.proofs.Common.{arith}
use Rattle.vecmap_base.proofs.{PairsLemmas.{AtIndices.shifts_without, ByIndex.by_index}, RemovalLemmas.{removes_by}}
use Rattle.vecmap_map.proofs.VecMap.remove_entry.Goals as goal

pub returns-in_err-index-clause-removal : goal.returns-in_err-index-clause-removal
returns-in_err-index-clause-removal g c = removes_by (g.Q.Equivalent.equivalent c.args.query) _ g.K.PartialEq.eq g.met.K.Eq.laws (g.met.Q.Equivalent.respects_eq c.args.query) _ (grind (arith, by_index))

pub returns-clause-removal : goal.returns-clause-removal
returns-clause-removal g c = removes_by (g.Q.Equivalent.equivalent c.args.query) _ g.K.PartialEq.eq g.met.K.Eq.laws (g.met.Q.Equivalent.respects_eq c.args.query) _ (grind (arith, by_index))

pub returns-clause-indices : goal.returns-clause-indices
returns-clause-indices g c = shifts_without (g.Q.Equivalent.equivalent c.args.query) _ _ (returns-clause-removal g c).entries
