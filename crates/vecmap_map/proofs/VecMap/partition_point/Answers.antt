use Rattle.vecmap_map.proofs.VecMap.partition_point.Goals as goal

pub returns-clause-index : goal.returns-clause-index
returns-clause-index g c =
    rw (← c.self.view_is, ← c.deref.ensures.value) (λ p by. c.partition_point.ensures.index p (λ x r at k. k p _ by at))
