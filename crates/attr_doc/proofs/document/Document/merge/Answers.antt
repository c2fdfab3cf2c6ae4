-- The moved sections are the sections of `other`, for which `make_room` reserved capacity. A merge of two documents is
-- a document.
use Rattle.std.{proofs.Common.{◌∙◌, ap, subst, sym}, specs.{List.All, Str.str_eq_ignore_ascii_case}}
use Rattle.vecmap.specs.Pairs.{HasDistinctKeys}
use Rattle.attr_doc.specs.Documents.{IsDocument, IsRoomFor, merge_of, sections_of}
use Rattle.attr_doc.proofs.DocumentLemmas.{document_merged, document_of_none, names_apart}
use Rattle.attr_doc.proofs.document.Document.merge.Goals as goal

pub move_all-requires-clause-rooms : goal.move_all-requires-clause-rooms
move_all-requires-clause-rooms c =
    let items = c.into_vec-others.ensures.list ∙ ap (λ m. m.entries) c.replace.ensures.value in
    subst (All (IsRoomFor c.make_room.new.sections.entries)) (sym items) c.in_ok-make_room.ensures.rooms

pub move_all-requires-clause-distinct : goal.move_all-requires-clause-distinct
move_all-requires-clause-distinct c =
    let items = c.into_vec-others.ensures.list ∙ ap (λ m. m.entries) c.replace.ensures.value in
    subst (HasDistinctKeys str_eq_ignore_ascii_case) (sym items) (names_apart c.other.inside.sections.entries c.other.invariant)

pub invariant_of-self-2 : goal.invariant_of-self-2
invariant_of-self-2 c =
    let items = c.into_vec-others.ensures.list ∙ ap (λ m. m.entries) c.replace.ensures.value in
    let moved = c.move_all.ensures ∙ (λ t. merge_of (c.make_room.ensures.sections t) (sections_of (items t))) in
    subst IsDocument (sym moved) (document_merged (sections_of c.self.inside.sections.entries) (sections_of c.other.inside.sections.entries) c.self.invariant c.other.invariant.sections)

pub invariant_of-other : goal.invariant_of-other
invariant_of-other c = document_of_none c.replace.new.dest.entries (ap (λ m. m.entries) c.replace.ensures.after ∙ c.new.ensures.list)

pub returns-clause-document : goal.returns-clause-document
returns-clause-document c = invariant_of-self-2 c
