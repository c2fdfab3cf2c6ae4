use Rattle.std.proofs.Common.{arith}
use Rattle.vecmap_run.proofs.CommandLemmas.{parsed_number}
use Rattle.vecmap_run.proofs.command.parse_number.Goals as goal

pub returns-then-are_digits-clause-value : goal.returns-then-are_digits-clause-value
returns-then-are_digits-clause-value c =
    let (parsed, small) = parsed_number c.args.word.now c.parse.result (grind arith) c.parse.ensures.value.0 in
    grind arith

pub returns-then-are_digits-clause-small : goal.returns-then-are_digits-clause-small
returns-then-are_digits-clause-small c =
    let (parsed, small) = parsed_number c.args.word.now c.parse.result (grind arith) c.parse.ensures.value.0 in
    grind arith
