use Rattle.std.proofs.{Common.{◌∙◌, [], append-nil, sym}, KnownBytes.Appends-nil, lemmas.Result.on_ok_weaker}
use Rattle.vecmap_run.proofs.ServiceLemmas.{answered_all, answered_rest}
use Rattle.vecmap_run.proofs.serve.Service.finish.Goals as goal

pub returns-then-is_empty-clause-ok : goal.returns-then-is_empty-clause-ok
returns-then-is_empty-clause-ok g c input text served =
    let none = sym (c.is_empty.ensures served.rest served.gathered) ∙ c.if-is_empty.true in
    ([], Appends-nil _, rw append-nil (answered_all _ _ input text served none))

pub returns-clause-ok : goal.returns-clause-ok
returns-clause-ok g c = on_ok_weaker c.answer.result (λ answers input text served.
    let some = sym (c.is_empty.ensures served.rest served.gathered) ∙ c.if-is_empty.false in
    let (answer, wrote, step) = answers served.rest served.gathered in
    (answer, wrote, answered_rest _ _ input text served some answer _ step)) c.answer.ensures.ok
