use Rattle.vecmap_base.{specs.FnCalls.side, proofs.SearchLemmas.{parted_err, parted_ok}}
use Rattle.vecmap_base.proofs.search.partition_point.Goals as goal

pub returns-in-Ok-clause-index : goal.returns-in-Ok-clause-index
returns-in-Ok-clause-index g c = λ p by first. parted_ok p c.args.items.now _ (c.in-Ok.ensures.index (λ x. side (p x)) (λ i r within said. said p by))

pub returns-clause-index : goal.returns-clause-index
returns-clause-index g c = λ p by first. parted_err p c.args.items.now _ (c.in-Err.ensures.index (λ x. side (p x)) (λ i r within said. said p by)) first
