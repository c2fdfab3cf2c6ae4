use Rattle.std.proofs.Common.{rules}
use Rattle.vecmap_base.proofs.PairsLemmas.Reordered.{swaps_pairs}
use Rattle.vecmap_map.proofs.VecMap.swap_indices.Goals as goal

pub returns-clause-reordered : goal.returns-clause-reordered
returns-clause-reordered g c = swaps_pairs c.args.self.now.entries _ c.args.a c.args.b c.requires.a_within c.requires.b_within (search rules)
