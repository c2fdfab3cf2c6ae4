use Rattle.std.proofs.Common.{◌-◌, arith, length, ◌∙◌}
use Rattle.vecmap_base.proofs.MoveLemmas.{swap_removed_near_end}
use Rattle.vecmap_base.proofs.moving.remove_item.Goals as goal

pub returns-then-count-le2-clause-list : goal.returns-then-count-le2-clause-list
returns-then-count-le2-clause-list g c =
    let xs = c.args.items.now.items in
    c.swap_remove.ensures.items ∙ swap_removed_near_end xs c.args.index (length xs - 1) c.swap_remove.result (omega (arith, c.requires.within)) (omega (arith, c.requires.within)) (omega (arith, c.requires.within, c.if-count-le2.true))
