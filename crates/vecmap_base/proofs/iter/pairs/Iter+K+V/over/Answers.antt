use Rattle.std.specs.Map.Iter.{deref_pair}
use Rattle.vecmap_base.proofs.WalkLemmas.{shows_values_in_order, shows_values_in_reverse}
use Rattle.vecmap_base.proofs.iter.pairs.Iter+K+V.over.Goals as goal

pub returns-clause-values_run : goal.returns-clause-values_run
returns-clause-values_run g c = shows_values_in_order deref_pair

pub returns-clause-values_run_back : goal.returns-clause-values_run_back
returns-clause-values_run_back g c = shows_values_in_reverse deref_pair
