use Rattle.std.{proofs.Common.arith, specs.Prelude.bytes_eq}
use Rattle.vecmap_base.proofs.PairsLemmas.ByIndex.{value_found}
use Rattle.vecmap_map.proofs.indexing.VecMapRefStrIndexRefStr.index.Goals as goal

pub returns : goal.returns
returns g c = grind (arith, value_found (λ k. bytes_eq c.args.query.now k.now) c.args.self.now.entries c.present_index.result c.index.result.now)
