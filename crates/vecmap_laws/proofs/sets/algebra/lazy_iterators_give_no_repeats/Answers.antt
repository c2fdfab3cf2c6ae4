-- The idea: each list is distinct in either order of the two sets, so it is whichever of them is longer.
use Rattle.std.specs.{List.IsDistinct, Set.is_member}
use Rattle.vecmap_base.proofs.EqualityLemmas.Sets.{distinct_both}
use Rattle.vecmap_set.specs.Lazy.{filtered_rest}
use Rattle.vecmap_laws.proofs.AlgebraLemmas.{on_shorter}
use Rattle.vecmap_laws.proofs.sets.algebra.lazy_iterators_give_no_repeats.Goals as goal

pub returns-clause-intersection : goal.returns-clause-intersection
returns-clause-intersection g c =
    let eq = g.T.PartialEq.eq in
    let o = g.met.T.Eq.laws in
    λ a b d e. on_shorter a b (λ s. IsDistinct eq (filtered_rest (is_member eq) s)) (distinct_both eq o b a e) (distinct_both eq o a b d)
