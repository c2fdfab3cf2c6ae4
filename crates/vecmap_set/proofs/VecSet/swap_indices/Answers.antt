use Rattle.std.proofs.Common.{ap, arith, length, rules}
use Rattle.vecmap_set.proofs.ReorderLemmas.{distinct_swap, swaps_items}
use Rattle.vecmap_set.proofs.VecSet.swap_indices.Goals as goal

pub invariant_of-self : goal.invariant_of-self
invariant_of-self g c =
    let same_length = ap (λ s. length s.elements) c.self.view_is in
    rw c.swap.ensures.items (distinct_swap _ g.met.T.Eq.laws _ c.args.a c.args.b (omega arith) (omega arith) c.self.invariant)

pub returns-clause-reordered : goal.returns-clause-reordered
returns-clause-reordered g c =
    swaps_items g.T.PartialEq.eq g.met.T.Eq.laws c.args.self.now.elements _ (invariant_of-self g c) c.args.a c.args.b c.requires.a_within c.requires.b_within (search rules)
