use Rattle.vecmap_base.proofs.ItemsLemmas.Sorted.{search_at, search_finds_equal}
use Rattle.vecmap_set.proofs.SetIndexLemmas.{finds_searched}
use Rattle.vecmap_set.proofs.VecSet.binary_search.Goals as goal

pub returns-clause-index : goal.returns-clause-index
returns-clause-index g c =
    let ord = λ (x : g.row.T.Denot). g.T.Ord.cmp x c.args.item.now in
    rw (← c.self.view_is, ← c.as_slice-items.ensures.value) (c.search_by_index.ensures.index ord (λ i r within said. said))

pub returns-clause-found : goal.returns-clause-found
returns-clause-found g c =
    let within = c.search_by_index.ensures.within in
    search_finds_equal (λ x. x) g.T.Ord.cmp g.met.T.Ord.total g.T.PartialEq.eq g.met.T.Ord.matches_eq c.args.item.now c.args.self.now.elements c.search_by_index.result (rw (← c.self.view_is, ← c.as_slice-items.ensures.value) within) (returns-clause-index g c)

pub returns-clause-at : goal.returns-clause-at
returns-clause-at g c =
    let within = c.search_by_index.ensures.within in
    finds_searched g.T.PartialEq.eq g.met.T.Eq.laws c.args.self.now.elements (rw (← c.self.view_is) c.self.invariant) c.args.item.now c.search_by_index.result
    (search_at (λ x. x) g.T.Ord.cmp g.met.T.Ord.total g.T.PartialEq.eq g.met.T.Ord.matches_eq c.args.item.now c.args.self.now.elements c.search_by_index.result (rw (← c.self.view_is, ← c.as_slice-items.ensures.value) within) (returns-clause-index g c))
