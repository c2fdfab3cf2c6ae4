use Rattle.std.proofs.{Common.{◌-◌, arith, length}, lemmas.Option.gets}
use Rattle.vecmap_base.proofs.{PairsLemmas.AtIndices.moves_one, RemovalLemmas.{distinct_swap_removed, swap_removes_at}, TakenLemmas.at_swap_removed}
use Rattle.vecmap_map.proofs.VecMap.swap_remove_index.Goals as goal

pub returns-clause-removal : goal.returns-clause-removal
returns-clause-removal g c = swap_removes_at c.args.self.now.entries _ c.args.index c.swap_remove.result (grind (arith, gets)) (grind (arith, gets))

pub returns-clause-distinct : goal.returns-clause-distinct
returns-clause-distinct g c = distinct_swap_removed c.args.self.now.entries _ c.args.index c.swap_remove.result (returns-clause-removal g c).entries (returns-clause-removal g c).pair

pub returns-clause-indices : goal.returns-clause-indices
returns-clause-indices g c last =
    let l = c.args.self.now.entries in
    let removal = returns-clause-removal g c in
    moves_one l _ (length l - 1) c.args.index (returns-clause-distinct g c) (at_swap_removed l _ c.args.index c.swap_remove.result removal.entries removal.pair last)
