use Rattle.vecmap_laws.proofs.QueryLemmas.{lookup_written, lookup_written_other_query, with_value_by_is_put}
use Rattle.vecmap_laws.proofs.maps.writes.writes_by_queries_are_insertions.Goals as goal

pub returns : goal.returns
returns g c =
    let eq = g.K.PartialEq.eq in let laws = g.met.K.Eq.laws in record {
      write = with_value_by_is_put eq laws;
      value = lookup_written eq laws;
      others = λ test other respects other_respects. lookup_written_other_query eq laws test respects other other_respects;
    }
