use Rattle.vecmap_laws.proofs.Sums.{sum_put, sum_without}
use Rattle.vecmap_laws.proofs.maps.changes.sums_follow_changes.Goals as goal

pub returns : goal.returns
returns g c = record { put = λ h. sum_put h g.K.PartialEq.eq; removal = sum_without }
