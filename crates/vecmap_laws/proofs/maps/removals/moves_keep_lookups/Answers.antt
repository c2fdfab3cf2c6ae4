use Rattle.vecmap_laws.proofs.{Inserted.{lookup_moved, put_at_moved}, OtherPairs.put_last}
use Rattle.vecmap_laws.proofs.maps.removals.moves_keep_lookups.Goals as goal

pub returns-clause-moved : goal.returns-clause-moved
returns-clause-moved g c = λ l d i j k v stored. put_at_moved g.K.PartialEq.eq g.met.K.Eq.laws l d i k v stored j

pub returns-clause-lookups : goal.returns-clause-lookups
returns-clause-lookups g c = λ l d i j k v stored. lookup_moved g.K.PartialEq.eq g.met.K.Eq.laws l d i k v stored j

pub returns-clause-last : goal.returns-clause-last
returns-clause-last g c = λ l d i k v at. put_last g.K.PartialEq.eq g.met.K.Eq.laws l d k i v at
