use Rattle.vecmap_map.proofs.VecMap.binary_search_by.Goals as goal

pub returns-clause-index : goal.returns-clause-index
returns-clause-index g c =
    rw (← c.self.view_is, ← c.as_slice-pairs.ensures.value) (λ ord by. c.search_by_index.ensures.index ord (λ i r within said. said ord by))
