use Rattle.std.{proofs.Common.{◌≡◌, ◌++◌, length}, specs.{List.All, Vec.Iter.into_iter_items, Str.str_eq_ignore_ascii_case}}
use Rattle.vecmap.specs.{Contents.HasRoom, Pairs.HasDistinctKeys}
use Rattle.attr_doc.specs.Documents.{IsRoomFor, merge_of, sections_of}
use Rattle.attr_doc.proofs.merge.move_all.Given as goal

abbrev pub invariant-loop-name : goal.invariant-loop-name
invariant-loop-name l = record {
  moved : sections_of l.sections.entries ≡ merge_of (sections_of l.fn.sections.entries) (sections_of l.yielded);
  rest : l.fn.others.items ≡ l.yielded ++ into_iter_items l.name-iterator;
  room : HasRoom l.sections (length (into_iter_items l.name-iterator));
  rooms : All (IsRoomFor l.sections.entries) (into_iter_items l.name-iterator);
  distinct : HasDistinctKeys str_eq_ignore_ascii_case (into_iter_items l.name-iterator);
}
