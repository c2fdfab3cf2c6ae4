use Rattle.vecmap_laws.proofs.MapEquality.{equal_where_lookups_agree, equality_is_agreement, lookups_from_test}
use Rattle.vecmap_laws.proofs.maps.equality.equality_is_agreement.Goals as goal

pub returns-clause-equality : goal.returns-clause-equality
returns-clause-equality g c = equality_is_agreement g.K.PartialEq.eq g.V.PartialEq.eq g.met.K.Eq.laws g.met.V.Eq.laws

pub returns-clause-every_key : goal.returns-clause-every_key
returns-clause-every_key g c = lookups_from_test g.K.PartialEq.eq g.V.PartialEq.eq g.met.K.Eq.laws g.met.V.Eq.laws

pub returns-clause-lookups : goal.returns-clause-lookups
returns-clause-lookups g c = equal_where_lookups_agree g.K.PartialEq.eq g.V.PartialEq.eq g.met.K.Eq.laws g.met.V.Eq.laws
