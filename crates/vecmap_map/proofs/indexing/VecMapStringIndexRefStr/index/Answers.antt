use Rattle.std.proofs.Common.{arith}
use Rattle.vecmap_base.{specs.Pairs.has_text, proofs.PairsLemmas.ByIndex.value_found}
use Rattle.vecmap_map.proofs.indexing.VecMapStringIndexRefStr.index.Goals as goal

pub returns : goal.returns
returns g c = grind (arith, value_found (has_text c.args.text.now) c.args.self.now.entries c.present_index.result c.index.result.now)
