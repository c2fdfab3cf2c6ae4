use Rattle.std.proofs.Common.{rules}
use Rattle.vecmap_base.proofs.PairsLemmas.Reordered.{reverses_pairs}
use Rattle.vecmap_map.proofs.VecMap.reverse.Goals as goal

pub returns-clause-reordered : goal.returns-clause-reordered
returns-clause-reordered g c = reverses_pairs c.args.self.now.entries _ (search rules)
