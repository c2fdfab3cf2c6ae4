use Rattle.vecmap_map.proofs.extending.VecMapExtendRefTuple2.TheImpl.Goals as goal

pub extend-asks : goal.extend-asks
extend-asks g c = record { ends = λ it h. ((c.requires it h).0, (c.requires it h).1) }
