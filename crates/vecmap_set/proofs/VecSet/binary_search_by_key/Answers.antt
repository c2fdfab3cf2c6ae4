use Rattle.vecmap_set.proofs.VecSet.binary_search_by_key.Goals as goal

pub returns-clause-index : goal.returns-clause-index
returns-clause-index g c =
    rw (← c.self.view_is, ← c.as_slice-items.ensures.value) (λ key_of by. c.search_by_index.ensures.index (λ x. g.B.Ord.cmp (key_of x) c.args.key.now) (λ i r within said. said key_of by))
