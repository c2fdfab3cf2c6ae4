use Rattle.std.proofs.Common.{◌+◌, ◌-◌, arith, drop, length-drop, length-take-le}
use Rattle.vecmap_base.proofs.MoveLemmas.{moved_down, moved_up, not_moved}
use Rattle.vecmap_base.proofs.moving.move_item.Goals as goal

pub returns-then-from-to : goal.returns-then-from-to
returns-then-from-to g c = λ d. rw c.rotate_left.ensures.after (moved_up c.args.items.now c.args.from c.args.to _ d (omega arith) c.if-from-to.true c.requires.to_within)

pub returns-then-to-from : goal.returns-then-to-from
returns-then-to-from g c = λ d.
    let xs = c.args.items.now in
    let from = c.args.from in
    let to = c.args.to in
    let long = length-take-le (from + 1 - to) (drop to xs) in
    rw c.rotate_right.ensures.after (moved_down xs from to _ _ d (omega arith) (omega (arith, length-drop to xs, long)) (omega (arith, c.if-to-from.true)) c.requires.from_within)

pub returns-else-to-from : goal.returns-else-to-from
returns-else-to-from g c = λ d. not_moved c.args.items.now c.args.from c.args.to d (omega (arith, c.if-from-to.false, c.if-to-from.false)) c.requires.from_within
