use Rattle.std.{proofs.{Common.{ap, sym, ◌∙◌}, lemmas.Map.Made.keys_of-map_values}, specs.Map.keys_of}
use Rattle.attr_doc.proofs.document.Document.sections.Goals as goal

pub returns-clause-names : goal.returns-clause-names
returns-clause-names c =
    let keys = c.keys.ensures in
    (keys.0 ∙ sym (keys_of-map_values (λ m. m.entries) c.self.inside.sections.entries) ∙ ap keys_of c.self.view_is, keys.1, keys.2, keys.3)
