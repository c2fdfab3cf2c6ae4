use Rattle.vecmap_base.proofs.DrainLemmas.{drains_in_order, drains_in_reverse}
use Rattle.vecmap_map.specs.Drain.{DrainKeeps, drain_rest}
use Rattle.vecmap_map.proofs.drain.Drain.over.Goals as goal

pub returns-then-end-len-clause-runs : goal.returns-then-end-len-clause-runs
returns-then-end-len-clause-runs g c = drains_in_order drain_rest DrainKeeps

pub returns-then-end-len-clause-runs_back : goal.returns-then-end-len-clause-runs_back
returns-then-end-len-clause-runs_back g c = drains_in_reverse drain_rest DrainKeeps

pub returns-clause-runs : goal.returns-clause-runs
returns-clause-runs g c = drains_in_order drain_rest DrainKeeps

pub returns-clause-runs_back : goal.returns-clause-runs_back
returns-clause-runs_back g c = drains_in_reverse drain_rest DrainKeeps
