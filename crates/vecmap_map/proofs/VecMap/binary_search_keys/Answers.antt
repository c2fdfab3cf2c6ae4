use Rattle.vecmap_base.proofs.PairsLemmas.Searched.{search_finds_key, search_index, sorted_by_keys, sorted_with_key}
use Rattle.vecmap_map.proofs.VecMap.binary_search_keys.Goals as goal

pub returns-clause-index : goal.returns-clause-index
returns-clause-index g c =
    let ord = λ (p : g.row.K.Denot × g.row.V.Denot). g.K.Ord.cmp p.0 c.args.key.now in
    rw (← c.self.view_is, ← c.as_slice-pairs.ensures.value) (c.search_by_index.ensures.index ord (λ i r within said. said))

pub returns-clause-found : goal.returns-clause-found
returns-clause-found g c =
    let within = c.search_by_index.ensures.within in
    search_finds_key g.K.PartialEq.eq g.K.Ord.cmp g.met.K.Ord.total g.met.K.Ord.matches_eq c.args.self.now.entries c.args.key.now c.search_by_index.result (rw (← c.self.view_is, ← c.as_slice-pairs.ensures.value) within) (returns-clause-index g c)

pub returns-clause-found_by_keys : goal.returns-clause-found_by_keys
returns-clause-found_by_keys g c sorted = returns-clause-found g c (sorted_by_keys g.K.Ord.cmp _ sorted)

pub returns-clause-keys_sorted : goal.returns-clause-keys_sorted
returns-clause-keys_sorted g c =
    let within = c.search_by_index.ensures.within in
    sorted_with_key g.K.Ord.cmp g.met.K.Ord.total c.args.self.now.entries c.args.key.now c.search_by_index.result (rw (← c.self.view_is, ← c.as_slice-pairs.ensures.value) within) (returns-clause-index g c)

pub returns-clause-at : goal.returns-clause-at
returns-clause-at g c =
    let within = c.search_by_index.ensures.within in
    search_index g.K.PartialEq.eq g.K.Ord.cmp g.met.K.Ord.total g.met.K.Ord.matches_eq g.met.K.Eq.laws c.args.self.now.entries c.args.key.now c.search_by_index.result (rw (← c.self.view_is, ← c.as_slice-pairs.ensures.value) within) (returns-clause-index g c)
