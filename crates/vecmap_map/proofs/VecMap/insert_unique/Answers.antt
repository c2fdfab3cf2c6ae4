use Rattle.std.proofs.Common.{rules}
use Rattle.vecmap_base.proofs.InsertionLemmas.{adds_new_key}
use Rattle.vecmap_map.proofs.VecMap.insert_unique.Goals as goal

pub returns-clause-insertion : goal.returns-clause-insertion
returns-clause-insertion g c = adds_new_key g.K.PartialEq.eq g.met.K.Eq.laws c.args.self.now.entries _ c.args.key c.args.value (search rules) c.requires.absent
