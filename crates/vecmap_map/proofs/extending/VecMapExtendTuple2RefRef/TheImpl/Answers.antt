use Rattle.vecmap_map.proofs.extending.VecMapExtendTuple2RefRef.TheImpl.Goals as goal

pub extend-asks : goal.extend-asks
extend-asks g c = record { ends = λ it h. ((c.requires it h).0, (c.requires it h).1) }
