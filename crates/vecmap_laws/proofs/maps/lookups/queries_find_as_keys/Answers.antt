use Rattle.vecmap_base.proofs.PairsLemmas.LookupsAfterChanges.{compares_with}
use Rattle.vecmap_laws.proofs.QueryLemmas.{lookup_put_any_query, lookup_put_other_query, lookup_put_query, lookup_without_query}
use Rattle.vecmap_laws.proofs.maps.lookups.queries_find_as_keys.Goals as goal

pub returns : goal.returns
returns g c =
    let eq = g.K.PartialEq.eq in let laws = g.met.K.Eq.laws in record {
      same = compares_with eq laws;
      inserted = lookup_put_query eq laws;
      others = lookup_put_other_query eq laws;
      lookups = lookup_put_any_query eq laws;
      removed = lookup_without_query eq laws;
    }
