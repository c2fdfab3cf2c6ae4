use Rattle.vecmap_laws.proofs.{AfterPuts.{lookup_puts, lookup_puts_distinct}, TwoParts.lookup_puts_last}
use Rattle.vecmap_laws.proofs.maps.insertions.bulk_insertions_are_single_ones.Goals as goal

pub returns-clause-value : goal.returns-clause-value
returns-clause-value g c = lookup_puts g.K.PartialEq.eq g.met.K.Eq.laws

pub returns-clause-value_distinct : goal.returns-clause-value_distinct
returns-clause-value_distinct g c = lookup_puts_distinct g.K.PartialEq.eq g.met.K.Eq.laws

pub returns-clause-last : goal.returns-clause-last
returns-clause-last g c = lookup_puts_last g.K.PartialEq.eq g.met.K.Eq.laws
