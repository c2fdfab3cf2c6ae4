use Rattle.std.proofs.lemmas.Str.{IsUtf8-from_ascii}
use Rattle.vecmap_run.proofs.CommandLemmas.{says_ascii}
use Rattle.vecmap_run.proofs.command.parse.Goals as goal

pub returns-in-Err-clause-unsaid : goal.returns-in-Err-clause-unsaid
returns-in-Err-clause-unsaid c said says = c.in-Err.ensures.cases.0 (IsUtf8-from_ascii _ (says_ascii said _ says))
