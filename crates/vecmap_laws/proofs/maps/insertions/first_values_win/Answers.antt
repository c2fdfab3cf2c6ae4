-- The idea: each clause is a lemma of `FirstValue`. Those of the law's line `using` need no answer.
use Rattle.vecmap_laws.proofs.FirstValue.{first_wins, lookup_put_new, lookup_puts_new, put_new_present}
use Rattle.vecmap_laws.proofs.maps.insertions.first_values_win.Goals as goal

pub returns-clause-present : goal.returns-clause-present
returns-clause-present g c = put_new_present g.K.PartialEq.eq

pub returns-clause-lookups : goal.returns-clause-lookups
returns-clause-lookups g c = lookup_put_new g.K.PartialEq.eq g.met.K.Eq.laws

pub returns-clause-step : goal.returns-clause-step
returns-clause-step g c = first_wins g.K.PartialEq.eq g.met.K.Eq.laws

pub returns-clause-many : goal.returns-clause-many
returns-clause-many g c = lookup_puts_new g.K.PartialEq.eq g.met.K.Eq.laws
