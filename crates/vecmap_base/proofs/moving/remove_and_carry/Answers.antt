use Rattle.std.proofs.Common.{ap, arith, insert, take_at, ◌∙◌}
use Rattle.vecmap_base.proofs.MoveLemmas.{carried_over}
use Rattle.vecmap_base.proofs.moving.remove_and_carry.Goals as goal

pub returns-clause-item : goal.returns-clause-item
returns-clause-item g c =
    let left = c.take_last-last.new.self in
    let lent = c.deref_mut.ensures in
    let whole = c.carry_left.ensures.list ∙ ap (λ l. insert l c.len-end.result c.take_last-last.result) lent.value in
    (carried_over c.args.items.now.items left.items c.carry_left.new.items c.args.index _ _ c.carry_left.result c.take_last-last.ensures.items (omega (arith, c.len-end.ensures, left.ok)) (omega (arith, c.carry_left.ensures.count, lent.len, c.take_last-last.ensures.len, c.requires.within, c.args.items.now.ok)) whole).1

pub returns-clause-list : goal.returns-clause-list
returns-clause-list g c =
    let left = c.take_last-last.new.self in
    let lent = c.deref_mut.ensures in
    let new = c.carry_left.new.items in
    let whole = c.carry_left.ensures.list ∙ ap (λ l. insert l c.len-end.result c.take_last-last.result) lent.value in
    take_at new _ _ (omega (arith, c.carry_left.ensures.count, lent.len, left.ok)) ∙ (carried_over c.args.items.now.items left.items new c.args.index _ _ c.carry_left.result c.take_last-last.ensures.items (omega (arith, c.len-end.ensures, left.ok)) (omega (arith, c.carry_left.ensures.count, lent.len, c.take_last-last.ensures.len, c.requires.within, c.args.items.now.ok)) whole).0
