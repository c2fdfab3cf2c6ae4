use Rattle.std.proofs.{Common.{arith, lit<}, lemmas.Str.Pattern.strip_prefix_char}
use Rattle.vecmap_run.proofs.CommandLemmas.{value_of-plain}
use Rattle.vecmap_run.proofs.command.parse_value.Goals as goal

pub returns-in_err-parse_number-in-None : goal.returns-in_err-parse_number-in-None
returns-in_err-parse_number-in-None c =
    let no_minus = rw c.in-None.is at (strip_prefix_char 45 c.args.word.now _ c.strip_prefix.ensures.cases (lit< tt)) in
    rw (value_of-plain _ no_minus) (grind arith)
