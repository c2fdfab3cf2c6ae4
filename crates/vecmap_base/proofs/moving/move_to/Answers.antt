use Rattle.std.{specs.List.Sorted.IsPermutation, proofs.Common.{◌≡◌, ◌∙◌, ap, arith, get_or, insert, length, remove, subst, sym, take_at}}
use Rattle.vecmap_base.proofs.MoveLemmas.{moved_is, moved_rearranged}
use Rattle.vecmap_base.proofs.moving.move_to.Goals as goal

-- The vector's items are the items of the slice that was borrowed.
pub returns-clause-list : goal.returns-clause-list
returns-clause-list g c =
    let from = c.args.from in
    let to = c.args.to in
    let long : length c.move_item.new.items ≡ c.args.items.now.len = omega (arith, c.move_item.auto.items, c.deref_mut.ensures.len, c.args.items.now.ok) in
    take_at c.move_item.new.items _ _ long
    ∙ moved_is c.args.items.now.items c.move_item.new.items from to c.requires.from_within (λ d. c.move_item.ensures d ∙ ap (λ ys. insert (remove ys from) to (get_or ys from d)) c.deref_mut.ensures.value)

pub returns-clause-rearranged : goal.returns-clause-rearranged
returns-clause-rearranged g c =
    let from = c.args.from in
    let to = c.args.to in
    let long : length c.move_item.new.items ≡ c.args.items.now.len = omega (arith, c.move_item.auto.items, c.deref_mut.ensures.len, c.args.items.now.ok) in
    subst (IsPermutation c.args.items.now.items) (sym (take_at c.move_item.new.items _ _ long))
    (moved_rearranged c.args.items.now.items c.move_item.new.items from to c.requires.from_within (λ d. c.move_item.ensures d ∙ ap (λ ys. insert (remove ys from) to (get_or ys from d)) c.deref_mut.ensures.value))
