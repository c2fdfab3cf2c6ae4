-- An existing section changes by one insertion into its map. A new one is made with its text, and then inserted.
use Rattle.std.proofs.{Common.{◌≡◌, [], ap, option_map, string_bytes, refl, ◌∙◌}, lemmas.Result.{IfOk-weaker, on_err_weaker, on_ok_weaker}}
use Rattle.std.specs.Str.{str_eq_ignore_ascii_case}
use Rattle.vecmap.specs.Pairs.{put}
use Rattle.attr_doc.proofs.{ChangeLemmas.{at_ok, section_stays, set_new, set_there}, TwoLookups.{has_text, no_text, text_of_none, text_of_some}}
use Rattle.attr_doc.proofs.set.set_text.Goals as goal

pub returns-in-Some-clause-err : goal.returns-in-Some-clause-err
returns-in-Some-clause-err c =
    on_err_weaker c.set_in.result (λ same. section_stays c.args.sections.now c.args.section c.in-Some.texts.now c.set_in.new.texts c.in-Some.ensures.value (c.in-Some.ensures.found.0 refl) (ap (λ m. m.entries) same)) c.set_in.ensures.err

pub returns-in-Some-clause-succeeds : goal.returns-in-Some-clause-succeeds
returns-in-Some-clause-succeeds c = λ h.
    c.set_in.ensures.succeeds (has_text c.args.sections.now.entries c.args.section c.args.name c.in-Some.texts.now c.in-Some.ensures.value h)

pub returns-in-Some-clause-sections : goal.returns-in-Some-clause-sections
returns-in-Some-clause-sections c =
    on_ok_weaker c.set_in.result (set_there c.args.sections.now c.args.section c.in-Some.texts.now c.set_in.new.texts c.in-Some.ensures.value (c.in-Some.ensures.found.0 refl) c.args.name c.args.text) c.set_in.ensures.texts

pub returns-in-Some-clause-old : goal.returns-in-Some-clause-old
returns-in-Some-clause-old c =
    IfOk-weaker c.set_in.result _ _ (λ old e. ap (option_map string_bytes) e ∙ text_of_some c.args.sections.now.entries c.args.section c.args.name c.in-Some.texts.now c.in-Some.ensures.value) c.set_in.ensures.old

pub returns-then-is_err-clause-succeeds : goal.returns-then-is_err-clause-succeeds
returns-then-is_err-clause-succeeds c = no_text c.args.sections.now.entries c.args.section c.args.name c.in-None.ensures.value

pub returns-else-is_err-2-clause-sections : goal.returns-else-is_err-2-clause-sections
returns-else-is_err-2-clause-sections c =
    let l = c.args.sections.now.entries in
    let first : c.insert.new.self.entries ≡ put str_eq_ignore_ascii_case [] c.args.name c.args.text =
    (at_ok c.insert.result c.unwrap.result c.unwrap.ensures c.insert.ensures.insertion).entries
    ∙ ap (λ f. put str_eq_ignore_ascii_case f c.args.name c.args.text) (c.reserve.ensures.reserved.entries ∙ c.new-texts.ensures.list) in
    let last : c.insert-in-None.new.self.entries ≡ put str_eq_ignore_ascii_case l c.args.section c.insert.new.self =
    (at_ok c.insert-in-None.result c.unwrap-in-None.result c.unwrap-in-None.ensures c.insert-in-None.ensures.insertion).entries
    ∙ ap (λ f. put str_eq_ignore_ascii_case f c.args.section c.insert.new.self) c.reserve-else-is_err.ensures.reserved.entries in
    set_new l c.insert-in-None.new.self.entries c.args.section c.args.name c.args.text c.insert.new.self c.in-None.ensures.value first last

pub returns-else-is_err-2-clause-old : goal.returns-else-is_err-2-clause-old
returns-else-is_err-2-clause-old c = text_of_none c.args.sections.now.entries c.args.section c.args.name c.in-None.ensures.value
