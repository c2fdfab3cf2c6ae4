-- Idea: a key has no space, so `split_once` cuts the text exactly where the grammar does.
use Rattle.std.proofs.{Common.{FitsSigned, rules, sym, w64}, lemmas.Int.to_z-of_z}
use Rattle.vecmap_run.proofs.CommandLemmas.{cuts, key_no_space, must_cut, parts}
use Rattle.vecmap_run.proofs.command.parse_pair.Goals as goal

pub returns-in_err-word-clause-unsaid : goal.returns-in_err-word-clause-unsaid
returns-in_err-word-clause-unsaid c = rw c.from_residual.ensures (λ key value (word, whole, is, _).
    must_cut _ _ c.split_once.ensures.cases key word whole (key_no_space key is) c.in_err-word.was)

pub returns-in_err-parse_key-clause-unsaid : goal.returns-in_err-parse_key-clause-unsaid
returns-in_err-parse_key-clause-unsaid c = rw c.from_residual-in_err-parse_key.ensures (λ key value (word, whole, is, _).
    let (same, _) = cuts _ _ c.split_once.ensures.cases key word whole (key_no_space key is) _ c.in_ok-word.was in
    let no = c.in_err-parse_key.ensures.unsaid in cc)

pub returns-in_err-parse_value-clause-unsaid : goal.returns-in_err-parse_value-clause-unsaid
returns-in_err-parse_value-clause-unsaid c = rw c.from_residual-in_err-parse_value.ensures (λ key value (word, whole, is, says).
    let (_, same) = cuts _ _ c.split_once.ensures.cases key word whole (key_no_space key is) _ c.in_ok-word.was in
    let no = c.in_err-parse_value.ensures in cc)

pub returns-clause-said : goal.returns-clause-said
returns-clause-said c =
    let (whole, _) = parts _ _ c.split_once.ensures.cases _ c.in_ok-word.was in
    let (is, same) = c.in_ok-parse_key.ensures.said in
    let fits : FitsSigned w64 c.in_ok-parse_value.field-0 = search rules in
    (c.in_ok-word.value_word.now, rw (← same) whole, is, rw to_z-of_z (sym c.in_ok-parse_value.ensures))
