use Rattle.std.proofs.{Common.refl, lemmas.Result.on_ok_weaker}
use Rattle.attr_doc.proofs.{ChangeLemmas.section_stays, RoomLemmas.{has_room_at, keeps_room}}
use Rattle.attr_doc.proofs.merge.reserve_in.Goals as goal

pub returns-in-Some-clause-sections : goal.returns-in-Some-clause-sections
returns-in-Some-clause-sections c = section_stays c.args.sections.now c.args.name.now c.in-Some.texts.now c.reserve.new.self c.in-Some.ensures.value (c.in-Some.ensures.found.0 refl) c.reserve.ensures.reserved.entries

pub returns-in-Some-clause-rooms_stay : goal.returns-in-Some-clause-rooms_stay
returns-in-Some-clause-rooms_stay c = keeps_room c.args.sections.now c.args.name.now c.reserve.new.self (c.in-Some.ensures.found.0 refl) c.in-Some.texts.now c.in-Some.ensures.value c.reserve.ensures.reserved.entries c.reserve.ensures.reserved.capacity

pub returns-in-Some-clause-room_in : goal.returns-in-Some-clause-room_in
returns-in-Some-clause-room_in c =
    on_ok_weaker c.reserve.result (has_room_at c.args.sections.now c.args.name.now c.reserve.new.self (c.in-Some.ensures.found.0 refl) c.args.additional) c.reserve.ensures.reserved.room
