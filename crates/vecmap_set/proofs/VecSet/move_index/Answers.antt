use Rattle.std.{specs.List.Sorted.IsPermutation, proofs.Common.{rules, subst}}
use Rattle.vecmap_set.proofs.ReorderLemmas.{distinct_rearranged, moves_item}
use Rattle.vecmap_set.proofs.VecSet.move_index.Goals as goal

pub invariant_of-self : goal.invariant_of-self
invariant_of-self g c = distinct_rearranged g.T.PartialEq.eq g.met.T.Eq.laws _ _ c.move_to.ensures.rearranged c.self.invariant

pub returns-clause-reordered : goal.returns-clause-reordered
returns-clause-reordered g c =
    moves_item g.T.PartialEq.eq g.met.T.Eq.laws c.args.self.now.elements c.move_to.new.items.items (invariant_of-self g c) c.args.from c.args.to
    (subst (λ m. IsPermutation m.elements c.move_to.new.items.items) c.self.view_is c.move_to.ensures.rearranged) (search rules) c.requires.from_within c.requires.to_within
