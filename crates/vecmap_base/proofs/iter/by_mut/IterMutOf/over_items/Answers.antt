use Rattle.std.proofs.{Common.arith, lemmas.Grind.common_steps}
use Rattle.vecmap_base.{specs.Iterators.rest_of, proofs.WalkLemmas.{shows_rest_in_order, shows_rest_in_reverse}}
use Rattle.vecmap_base.proofs.iter.by_mut.IterMutOf.over_items.Goals as goal

pub returns-clause-rest : goal.returns-clause-rest
returns-clause-rest g c =
    let shows = g.P.PartMut.shows in
    let rest = rest_of g.P.Projection.part in
    (grind (arith, common_steps), grind (arith, common_steps), shows_rest_in_order shows rest, shows_rest_in_reverse shows rest)
