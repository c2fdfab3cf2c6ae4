use Rattle.vecmap_laws.proofs.Inserted.{removed_is_absent}
use Rattle.vecmap_laws.proofs.maps.removals.removals_by_index_are_undone.Goals as goal

pub returns-clause-own_key : goal.returns-clause-own_key
returns-clause-own_key g c = removed_is_absent g.K.PartialEq.eq g.met.K.Eq.laws
