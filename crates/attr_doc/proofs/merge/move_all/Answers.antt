-- The loop keeps that the sections so far are merged, and that there is spare capacity for the sections still to come.
use Rattle.std.proofs.Common.{List, ℕ, ◌∙◌, ◌++◌, ap, append_assoc, arith, length, refl, subst, sym}
use Rattle.std.specs.{List.All, Map.keys_of, Vec.Iter.into_iter_items, Str.str_eq_ignore_ascii_case}
use Rattle.std.proofs.{lemmas.List.Elements.{All-head, All-tail}, lemmas.Map.Keys.{IsDistinct-head, IsDistinct-tail}}
use Rattle.vecmap.specs.{Contents.HasRoom, Pairs.HasDistinctKeys}
use Rattle.attr_doc.specs.Documents.{IsRoomFor, Stored, sections_of, with_section}
use Rattle.attr_doc.proofs.{ChangeLemmas.merged_push, RoomLemmas.room_after}
use Rattle.attr_doc.proofs.merge.move_all.Goals as goal

pub loop-name-init : goal.loop-name-init
loop-name-init c =
    let items = c.into_iter-name-iterator.ensures.into_iter_gives.0 in
    record {
      moved = refl;
      rest = sym items;
      room = subst (λ l. HasRoom c.args.sections.now (length l)) (sym items) c.requires.room;
      rooms = subst (All (IsRoomFor c.args.sections.now.entries)) (sym items) c.requires.rooms;
      distinct = subst (HasDistinctKeys str_eq_ignore_ascii_case) (sym items) c.requires.distinct;
    }

pub move_section-requires-clause-room : goal.move_section-requires-clause-room
move_section-requires-clause-room c =
    let long = ap length c.in-Some.ensures.steps.0 in
    omega (arith, long, c.loop-name.invariant.room)

pub move_section-requires-clause-room_in : goal.move_section-requires-clause-room_in
move_section-requires-clause-room_in c = All-head (IsRoomFor c.loop-name.sections.entries) (c.in-Some.name, c.in-Some.texts) (into_iter_items c.next.new.self) (subst (All (IsRoomFor c.loop-name.sections.entries)) c.in-Some.ensures.steps.0 c.loop-name.invariant.rooms)

pub loop-name-preserved : goal.loop-name-preserved
loop-name-preserved c =
    let next = c.in-Some.ensures.steps in
    let rest = into_iter_items c.next.new.self in
    let p : List ℕ × Stored = (c.in-Some.name, c.in-Some.texts) in
    let old = c.loop-name.sections.entries in
    let distinct = subst (HasDistinctKeys str_eq_ignore_ascii_case) next.0 c.loop-name.invariant.distinct in
    let all = subst (All (IsRoomFor old)) next.0 c.loop-name.invariant.rooms in
    let long = ap length next.0 in
    record {
      moved = c.move_section.ensures.sections ∙ ap (λ d. with_section d c.in-Some.name c.in-Some.texts.entries) c.loop-name.invariant.moved ∙ sym (merged_push (sections_of c.args.sections.now.entries) c.loop-name.yielded p);
      rest = rw append_assoc (c.loop-name.invariant.rest ∙ ap (λ l. c.loop-name.yielded ++ l) next.0);
      room = omega (arith, long, c.move_section.ensures.len, c.move_section.ensures.capacity, c.loop-name.invariant.room);
      rooms = room_after old c.move_section.new.sections.entries c.in-Some.name rest (IsDistinct-head str_eq_ignore_ascii_case c.in-Some.name (keys_of rest) distinct) c.move_section.ensures.others (All-tail (IsRoomFor old) p rest all);
      distinct = IsDistinct-tail str_eq_ignore_ascii_case c.in-Some.name (keys_of rest) distinct;
    }
