use Rattle.vecmap_set.proofs.VecSet.binary_search_by.Goals as goal

pub returns-clause-place : goal.returns-clause-place
returns-clause-place g c = λ ord by.
    rw (← c.self.view_is, ← c.as_slice-items.ensures.value) (c.search_by_index.ensures.place ord (λ i r within said. said ord by))
