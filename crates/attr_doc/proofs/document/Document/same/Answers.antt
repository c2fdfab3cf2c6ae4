use Rattle.std.proofs.Common.{◌≡◌, ◌↔◌, ℕ, List, Bool, IsTrue, subst, sym}
use Rattle.attr_doc.{specs.Documents.{Sections, sections_of, text_of}, proofs.SameTexts.same_documents}
use Rattle.attr_doc.proofs.document.Document.same.Goals as goal

abbrev Tells : Sections → Sections → Bool → Type 0
Tells d e r = IsTrue r ↔ ((s n : List ℕ) → text_of d s n ≡ text_of e s n)

pub returns : goal.returns
returns c =
    let a = c.self.inside.sections.entries in
    let b = c.other.inside.sections.entries in
    let tells : Tells (sections_of a) (sections_of b) c.eq.result = subst (Tells (sections_of a) (sections_of b)) (sym c.eq.ensures) (same_documents a b c.self.invariant c.other.invariant) in
    subst (λ d. Tells d c.args.other.now c.eq.result) c.self.view_is (subst (λ e. Tells (sections_of a) e c.eq.result) c.other.view_is tells)
