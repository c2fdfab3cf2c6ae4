-- The idea: each clause is a lemma of `AfterPuts` or of `Lookups`.
use Rattle.vecmap_laws.proofs.{AfterPuts.{lookup_put_any, lookup_put_key}, LookupLemmas.{lookup_put, lookup_put_other}}
use Rattle.vecmap_laws.proofs.maps.insertions.insertions_are_found.Goals as goal

pub returns-clause-value : goal.returns-clause-value
returns-clause-value g c = lookup_put g.K.PartialEq.eq g.met.K.Eq.laws

pub returns-clause-others : goal.returns-clause-others
returns-clause-others g c = lookup_put_other g.K.PartialEq.eq g.met.K.Eq.laws

pub returns-clause-lookups : goal.returns-clause-lookups
returns-clause-lookups g c = lookup_put_any g.K.PartialEq.eq g.met.K.Eq.laws

pub returns-clause-with_key : goal.returns-clause-with_key
returns-clause-with_key g c = lookup_put_key g.K.PartialEq.eq g.met.K.Eq.laws
