use Rattle.std.proofs.Common.{arith}
use Rattle.vecmap_base.proofs.InsertionLemmas.{inserts_at}
use Rattle.vecmap_map.proofs.VecMap.insert_at.Goals as goal

pub returns-in-Some-clause-insertion : goal.returns-in-Some-clause-insertion
returns-in-Some-clause-insertion g c = inserts_at g.K.PartialEq.eq g.met.K.Eq.laws c.args.self.now.entries _ c.args.index c.args.key c.args.value (grind arith) c.requires.within

pub returns-clause-insertion : goal.returns-clause-insertion
returns-clause-insertion g c = inserts_at g.K.PartialEq.eq g.met.K.Eq.laws c.args.self.now.entries _ c.args.index c.args.key c.args.value (grind arith) c.requires.within
