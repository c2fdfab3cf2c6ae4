-- The loop keeps that no section changes, and that there is spare capacity for the sections of `others` so far.
use Rattle.std.{proofs.{Common.{◌∙◌, arith, length, subst, take}, lemmas.List.{take_all, Elements.{All-more, All-weaker}}}, specs.List.All}
use Rattle.attr_doc.{specs.Documents.{HasRoomAt, IsRoomFor}, proofs.RoomLemmas.same_length}
use Rattle.attr_doc.proofs.merge.make_room.Goals as goal

pub loop-other-preserved : goal.loop-other-preserved
loop-other-preserved c =
    let old = c.loop-other.sections.entries in
    let new = c.reserve_in.new.sections.entries in
    let ys = c.as_slice-other-items.result.now in
    let i = c.loop-other.other-index in
    let done = All-weaker (IsRoomFor old) (IsRoomFor new) (λ p h. c.in_ok-reserve_in.ensures.rooms_stay p.0 (length p.1.entries) h) (take i ys) c.loop-other.invariant.rooms in
    let here : IsRoomFor new c.other-item.result = subst (λ n. HasRoomAt new c.other-item.result.0 n) c.len-in-loop-other.ensures.count c.in_ok-reserve_in.ensures.room_in in
    let same = same_length new old c.in_ok-reserve_in.ensures.sections in
    record {
      sections = c.in_ok-reserve_in.ensures.sections ∙ c.loop-other.invariant.sections;
      room = omega (arith, same, c.in_ok-reserve_in.ensures.capacity, c.loop-other.invariant.room);
      rooms = All-more (IsRoomFor new) ys i c.other-item.result c.loop-other-test.true done (subst (IsRoomFor new) c.other-item.is here);
    }

pub returns-clause-rooms : goal.returns-clause-rooms
returns-clause-rooms c = subst (All (IsRoomFor c.loop-other.sections.entries)) (take_all c.loop-other.other-index c.as_slice-other-items.result.now c.loop-other-test.false ∙ c.as_slice-other-items.ensures.list) c.loop-other.invariant.rooms
