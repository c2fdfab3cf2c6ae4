use Rattle.vecmap_laws.proofs.{AfterPuts.lookup_without_any, Finds.lookup_swap_without_key, LookupLemmas.{lookup_without_key, lookup_without_key_other}}
use Rattle.vecmap_laws.proofs.maps.removals.removals_are_forgotten.Goals as goal

pub returns-clause-value : goal.returns-clause-value
returns-clause-value g c = λ l d k. lookup_without_key g.K.PartialEq.eq g.met.K.Eq.laws l k d

pub returns-clause-others : goal.returns-clause-others
returns-clause-others g c = lookup_without_key_other g.K.PartialEq.eq g.met.K.Eq.laws

pub returns-clause-lookups : goal.returns-clause-lookups
returns-clause-lookups g c = λ l d k q. lookup_without_any g.K.PartialEq.eq g.met.K.Eq.laws l k q d

pub returns-clause-swap : goal.returns-clause-swap
returns-clause-swap g c = λ l d k q. lookup_swap_without_key g.K.PartialEq.eq g.met.K.Eq.laws l k q d
