use Rattle.std.proofs.Common.{◌+◌, ◌<◌, arith, length, ◌∙◌}
use Rattle.vecmap_base.proofs.MoveLemmas.{moved_found, moved_removed}
use Rattle.vecmap_base.proofs.moving.move_by_parts.Goals as goal

pub loop-items-preserved : goal.loop-items-preserved
loop-items-preserved g c =
    let xs = c.loop-items.items in
    let ys = c.move_item_not_inlined.new.items in
    let at = c.loop-items.at in
    let to = at + c.max-part.result in
    let d = c.index-items-from.result in
    let now = c.loop-items.invariant in
    let within : to < length xs = omega (arith, now.within, c.loop-items-test.true) in
    record {
      within = omega (arith, within, c.move_item_not_inlined.auto.items);
      item = moved_found xs ys at to d now.within within (c.move_item_not_inlined.ensures d) ∙ now.item;
      items = moved_removed xs ys at to _ now.within within (c.move_item_not_inlined.ensures d) ∙ now.items;
    }
