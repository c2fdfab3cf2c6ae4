use Rattle.attr_doc.proofs.DocumentLemmas.{document_of_none}
use Rattle.attr_doc.proofs.document.Document.new.Goals as goal

pub invariant_of-result : goal.invariant_of-result
invariant_of-result c = document_of_none c.new.result.entries c.new.ensures.list

pub returns-clause-document : goal.returns-clause-document
returns-clause-document c = invariant_of-result c
