use Rattle.vecmap_laws.proofs.{Inserted.{lookup_put_at, lookup_put_at_absent}, OtherPairs.without_put_at}
use Rattle.vecmap_laws.proofs.maps.insertions.insertions_at_an_index_are_found.Goals as goal

pub returns-clause-new_key : goal.returns-clause-new_key
returns-clause-new_key g c = lookup_put_at_absent g.K.PartialEq.eq g.met.K.Eq.laws

pub returns-clause-lookups : goal.returns-clause-lookups
returns-clause-lookups g c = lookup_put_at g.K.PartialEq.eq g.met.K.Eq.laws

pub returns-clause-rest : goal.returns-clause-rest
returns-clause-rest g c = λ l d i k v. without_put_at g.K.PartialEq.eq g.met.K.Eq.laws l d k i v
