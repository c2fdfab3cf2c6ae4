-- The vector's items are the items of the slice that was borrowed.
use Rattle.std.proofs.Common.{◌≡◌, ◌+◌, ap, arith, insert, length, take_at, ◌∙◌}
use Rattle.vecmap_base.proofs.MoveLemmas.{carried_back_to, carried_to}
use Rattle.vecmap_base.proofs.moving.replace_and_move.Goals as goal

pub returns-then-to-from-lt-MAX_CARRIED_LEFT-clause-list : goal.returns-then-to-from-lt-MAX_CARRIED_LEFT-clause-list
returns-then-to-from-lt-MAX_CARRIED_LEFT-clause-list g c =
    let items = c.args.items.now in
    let new = c.carry_left.new.items in
    let long : length new ≡ items.len = omega (arith, c.carry_left.ensures.count, c.deref_mut.ensures.len, items.ok) in
    let carried = c.carry_left.ensures.list ∙ ap (λ l. insert l (c.args.to + 1) c.args.item) c.deref_mut.ensures.value in
    take_at new _ _ long ∙ (carried_to items.items new c.args.from c.args.to (c.args.to + 1) c.args.item c.carry_left.result (omega arith) (omega (arith, c.if-from-to.true)) c.requires.to_within (omega (arith, long, items.ok, c.requires.from_within)) carried).0

pub returns-then-from-to-lt-MAX_CARRIED_RIGHT-clause-item : goal.returns-then-from-to-lt-MAX_CARRIED_RIGHT-clause-item
returns-then-from-to-lt-MAX_CARRIED_RIGHT-clause-item g c =
    let items = c.args.items.now in
    let new = c.carry_right.new.items in
    let lent = c.deref_mut-then-from-to-lt-MAX_CARRIED_RIGHT.ensures in
    let carried = c.carry_right.ensures.list ∙ ap (λ l. insert l c.args.to c.args.item) lent.value in
    (carried_back_to items.items new c.args.from c.args.to (c.args.from + 1) c.args.item c.carry_right.result (omega arith) (omega (arith, c.if-to-from.true)) c.requires.from_within (omega (arith, c.carry_right.ensures.count, lent.len, items.ok, c.requires.from_within)) carried).1

pub returns-then-from-to-lt-MAX_CARRIED_RIGHT-clause-list : goal.returns-then-from-to-lt-MAX_CARRIED_RIGHT-clause-list
returns-then-from-to-lt-MAX_CARRIED_RIGHT-clause-list g c =
    let items = c.args.items.now in
    let new = c.carry_right.new.items in
    let lent = c.deref_mut-then-from-to-lt-MAX_CARRIED_RIGHT.ensures in
    let long : length new ≡ items.len = omega (arith, c.carry_right.ensures.count, lent.len, items.ok) in
    let carried = c.carry_right.ensures.list ∙ ap (λ l. insert l c.args.to c.args.item) lent.value in
    take_at new _ _ long ∙ (carried_back_to items.items new c.args.from c.args.to (c.args.from + 1) c.args.item c.carry_right.result (omega arith) (omega (arith, c.if-to-from.true)) c.requires.from_within (omega (arith, long, items.ok, c.requires.from_within)) carried).0
