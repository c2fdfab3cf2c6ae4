use Rattle.std.proofs.{Common.arith, lemmas.Option.gets}
use Rattle.vecmap_base.proofs.{PairsLemmas.AtIndices.shifts_indices, RemovalLemmas.{distinct_removed, removes_at}}
use Rattle.vecmap_map.proofs.VecMap.remove_index.Goals as goal

pub returns-clause-removal : goal.returns-clause-removal
returns-clause-removal g c = removes_at c.args.self.now.entries _ c.args.index c.remove_item.result (grind (arith, gets)) (grind (arith, gets))

pub returns-clause-indices : goal.returns-clause-indices
returns-clause-indices g c = shifts_indices c.args.self.now.entries _ c.args.index (returns-clause-removal g c).entries

pub returns-clause-distinct : goal.returns-clause-distinct
returns-clause-distinct g c = distinct_removed c.args.self.now.entries _ c.args.index (returns-clause-removal g c).entries
