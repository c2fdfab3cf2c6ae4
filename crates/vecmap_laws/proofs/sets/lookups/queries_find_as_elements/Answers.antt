use Rattle.vecmap_laws.proofs.ItemLemmas.{index_after_any, index_after_other, index_after_own, without_query_absent}
use Rattle.vecmap_base.proofs.PairsLemmas.LookupsAfterChanges.{compares_with}
use Rattle.vecmap_laws.proofs.sets.lookups.queries_find_as_elements.Goals as goal

pub returns : goal.returns
returns g c =
    let eq = g.T.PartialEq.eq in let laws = g.met.T.Eq.laws in record {
      same = compares_with eq laws;
      inserted = λ test respects. index_after_own eq test laws respects;
      others = index_after_other eq;
      indices = λ test respects. index_after_any eq test laws respects;
      removed = without_query_absent eq laws;
    }
