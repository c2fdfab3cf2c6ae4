use Rattle.attr_doc.{specs.Documents.sections_of, proofs.DocumentLemmas.document_set}
use Rattle.attr_doc.proofs.document.Document.set.Goals as goal

pub invariant_of-self : goal.invariant_of-self
invariant_of-self c = document_set c.set_text.result (sections_of c.self.inside.sections.entries) (sections_of c.set_text.new.sections.entries) c.args.section c.args.name c.args.text c.self.invariant c.set_text.ensures.sections c.set_text.ensures.err

pub returns-clause-document : goal.returns-clause-document
returns-clause-document c = invariant_of-self c
