use Rattle.std.proofs.Common.{arith}
use Rattle.vecmap_base.proofs.{InsertionLemmas.puts_key, PairsLemmas.ByIndex.{pair_found, put_key_by_index}}
use Rattle.vecmap_base.proofs.RemovalLemmas.{finds_pair}
use Rattle.vecmap_map.proofs.VecMap.insert_key.Goals as goal

pub returns-in-Some-clause-insertion : goal.returns-in-Some-clause-insertion
returns-in-Some-clause-insertion g c = puts_key g.K.PartialEq.eq g.met.K.Eq.laws c.args.self.now.entries _ c.args.key c.args.value (grind (arith, put_key_by_index))

pub returns-in-Some-clause-returned : goal.returns-in-Some-clause-returned
returns-in-Some-clause-returned g c = finds_pair (g.K.PartialEq.eq c.args.key) _ _ (grind (arith, pair_found (g.K.PartialEq.eq c.args.key) c.args.self.now.entries c.in-Some.index c.index_mut.result.now))

pub returns-clause-insertion : goal.returns-clause-insertion
returns-clause-insertion g c = puts_key g.K.PartialEq.eq g.met.K.Eq.laws c.args.self.now.entries _ c.args.key c.args.value (grind (arith, put_key_by_index))
