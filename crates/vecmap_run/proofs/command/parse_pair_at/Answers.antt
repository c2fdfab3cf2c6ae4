-- Idea: a number has no space, so `split_once` cuts the text exactly where the grammar does.
use Rattle.std.proofs.{Common.{FitsSigned, rules, sym, w64}, lemmas.Int.to_z-of_z}
use Rattle.vecmap_run.proofs.CommandLemmas.{cuts, must_cut, number_first, parts}
use Rattle.vecmap_run.proofs.command.parse_pair_at.Goals as goal

pub returns-in_err-word-clause-unsaid : goal.returns-in_err-word-clause-unsaid
returns-in_err-word-clause-unsaid c = rw c.from_residual.ensures (λ index key value (word, pair, whole, says, _).
    must_cut _ _ c.split_once.ensures.cases word pair whole (number_first word index says) c.in_err-word.was)

pub returns-in_err-index-clause-unsaid : goal.returns-in_err-index-clause-unsaid
returns-in_err-index-clause-unsaid c = rw c.from_residual-in_err-index.ensures (λ index key value (word, pair, whole, says, _).
    let (same, _) = cuts _ _ c.split_once.ensures.cases word pair whole (number_first word index says) _ c.in_ok-word.was in
    let no = c.in_err-index.ensures.value in cc)

pub returns-in_err-key-clause-unsaid : goal.returns-in_err-key-clause-unsaid
returns-in_err-key-clause-unsaid c = rw c.from_residual-in_err-key.ensures (λ index key value (word, pair, whole, says, is).
    let (_, same) = cuts _ _ c.split_once.ensures.cases word pair whole (number_first word index says) _ c.in_ok-word.was in
    c.in_err-key.ensures.unsaid key value (rw same is))

pub returns-clause-said : goal.returns-clause-said
returns-clause-said c =
    let (whole, _) = parts _ _ c.split_once.ensures.cases _ c.in_ok-word.was in
    let fits : FitsSigned w64 c.in_ok-key.value = search rules in
    (c.in_ok-word.word.now, c.in_ok-word.rest.now, whole, sym c.in_ok-index.ensures.value, rw to_z-of_z c.in_ok-key.ensures.said)
