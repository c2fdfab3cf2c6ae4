use Rattle.std.proofs.Common.{Some, ap, option_copied, option_map, string_bytes, ◌∙◌}
use Rattle.attr_doc.{specs.Documents.text_of, proofs.TwoLookups.{text_of_none, text_of_some}}
use Rattle.attr_doc.proofs.document.Document.get.Goals as goal

pub returns-in_err-texts : goal.returns-in_err-texts
returns-in_err-texts c =
    ap option_copied c.from_residual.ensures
    ∙ text_of_none c.self.inside.sections.entries c.args.section.now c.args.name.now c.in_err-texts.ensures.returned
    ∙ ap (λ d. text_of d c.args.section.now c.args.name.now) c.self.view_is

pub returns-in_err-text : goal.returns-in_err-text
returns-in_err-text c =
    ap option_copied c.from_residual-in_err-text.ensures ∙ ap (option_map string_bytes) c.in_err-text.ensures.returned
    ∙ text_of_some c.self.inside.sections.entries c.args.section.now c.args.name.now c.in_ok-texts.texts.now c.in_ok-texts.ensures.returned
    ∙ ap (λ d. text_of d c.args.section.now c.args.name.now) c.self.view_is

pub returns : goal.returns
returns c =
    ap (λ x. Some x) c.as_str.ensures.value ∙ ap (option_map string_bytes) c.in_ok-text.ensures.returned
    ∙ text_of_some c.self.inside.sections.entries c.args.section.now c.args.name.now c.in_ok-texts.texts.now c.in_ok-texts.ensures.returned
    ∙ ap (λ d. text_of d c.args.section.now c.args.name.now) c.self.view_is
