use Rattle.vecmap_run.proofs.CommandLemmas.{parts, said_whole, says_cut, unsaid_whole}
use Rattle.vecmap_run.proofs.command.parse_text.Goals as goal

pub returns-in-Some-clause-said : goal.returns-in-Some-clause-said
returns-in-Some-clause-said c =
    let (whole, _) = parts _ _ c.split_once.ensures.cases _ c.in-Some.is in
    said_whole _ _ _ _ whole c.with_arguments.ensures.said

pub returns-in-Some-clause-unsaid : goal.returns-in-Some-clause-unsaid
returns-in-Some-clause-unsaid c =
    unsaid_whole _ _ _ _ (λ said says. says_cut said _ _ c.split_once.ensures.cases _ c.in-Some.is says) c.with_arguments.ensures.unsaid
