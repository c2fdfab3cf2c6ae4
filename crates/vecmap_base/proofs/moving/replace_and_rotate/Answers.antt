use Rattle.std.proofs.Common.{◌≡◌, ap, arith, get_or, insert, length, remove, set, take_at, ◌∙◌}
use Rattle.vecmap_base.proofs.MoveLemmas.{replaced_and_moved}
use Rattle.vecmap_base.proofs.moving.replace_and_rotate.Goals as goal

pub returns-clause-list : goal.returns-clause-list
returns-clause-list g c =
    let xs = c.args.items.now.items in
    let from = c.args.from in
    let to = c.args.to in
    let item = c.args.item in
    let long : length c.move_item.new.items ≡ c.args.items.now.len = omega (arith, c.move_item.auto.items, c.deref_mut.ensures.len, c.args.items.now.ok) in
    let replaced : c.deref_mut.result.now ≡ set xs from item = c.deref_mut.ensures.value ∙ ap (set xs from) c.replace-old.ensures.after in
    let moved : c.move_item.new.items ≡ insert (remove (set xs from item) from) to (get_or (set xs from item) from item) =
    c.move_item.ensures item ∙ ap (λ ys. insert (remove ys from) to (get_or ys from item)) replaced in
    take_at c.move_item.new.items _ _ long ∙ moved ∙ replaced_and_moved xs from to item item c.requires.from_within
