use Rattle.vecmap_set.proofs.extending.VecSetExtendRef.TheImpl.Goals as goal

pub extend-asks : goal.extend-asks
extend-asks g c = record { ends = λ it h. ((c.requires it h).0, (c.requires it h).1) }
