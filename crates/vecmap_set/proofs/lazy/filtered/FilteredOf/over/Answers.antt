use Rattle.std.proofs.{Common.arith, lemmas.Grind.common_steps}
use Rattle.vecmap_set.{specs.Lazy.{FiltersFirst, FiltersLast, filtered_rest, presence}, proofs.LazyLemmas.{length_filter, refs_run}}
use Rattle.vecmap_set.proofs.lazy.filtered.FilteredOf.over.Goals as goal

pub returns : goal.returns
returns g c =
    let keeps = presence g.T.PartialEq.eq g.P.Presence.IS_WITHIN in
    let runs = refs_run (FiltersFirst keeps) (FiltersLast keeps) (filtered_rest keeps) (λ s r t h. h.0) (λ s r t h. h.0) in
    (grind (arith, common_steps), grind (arith, common_steps, length_filter), runs.0, runs.1)
