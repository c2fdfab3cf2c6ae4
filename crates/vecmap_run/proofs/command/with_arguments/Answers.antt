use Rattle.vecmap_run.proofs.CommandLemmas.{only_insert, only_insert_at, only_or_insert}
use Rattle.vecmap_run.proofs.command.with_arguments.Goals as goal

pub returns-in_err-key-in-insert-clause-unsaid : goal.returns-in_err-key-in-insert-clause-unsaid
returns-in_err-key-in-insert-clause-unsaid c = rw c.from_residual.ensures (only_insert _ _ c.in-insert.is c.in_err-key-in-insert.ensures.unsaid)

pub returns-in_err-index-in-insert_at-clause-unsaid : goal.returns-in_err-index-in-insert_at-clause-unsaid
returns-in_err-index-in-insert_at-clause-unsaid c = rw c.from_residual-in_err-index-in-insert_at.ensures (only_insert_at _ _ c.in-insert_at.is c.in_err-index-in-insert_at.ensures.unsaid)

pub returns-in_err-key-in-or_insert-clause-unsaid : goal.returns-in_err-key-in-or_insert-clause-unsaid
returns-in_err-key-in-or_insert-clause-unsaid c = rw c.from_residual-in_err-key-in-or_insert.ensures (only_or_insert _ _ c.in-or_insert.is c.in_err-key-in-or_insert.ensures.unsaid)
