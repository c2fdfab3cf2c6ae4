use Rattle.std.{proofs.Common.{◌≡◌, length, take}, specs.List.All}
use Rattle.vecmap.specs.Contents.{HasRoom}
use Rattle.attr_doc.specs.Documents.{IsRoomFor, sections_of}
use Rattle.attr_doc.proofs.merge.make_room.Given as goal

abbrev pub invariant-loop-other : goal.invariant-loop-other
invariant-loop-other l = record {
  sections : sections_of l.sections.entries ≡ sections_of l.fn.sections.entries;
  room : HasRoom l.sections (length l.fn.others.entries);
  rooms : All (IsRoomFor l.sections.entries) (take l.other-index l.other-items);
}
