use Rattle.vecmap_map.proofs.VecMap.binary_search_by_key.Goals as goal

pub returns-clause-index : goal.returns-clause-index
returns-clause-index g c =
    rw (← c.self.view_is, ← c.as_slice-pairs.ensures.value) (λ key_of by. c.search_by_index.ensures.index (λ p. g.B.Ord.cmp (key_of p) c.args.key.now) (λ i r within said. said key_of by))
