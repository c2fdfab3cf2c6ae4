use Rattle.std.{specs.Prelude.◌-◌, proofs.Common.arith}
use Rattle.vecmap_base.proofs.DrainLemmas.{moved_by_reversals}
use Rattle.vecmap_base.proofs.drain.move_range_last.Goals as goal

pub returns-then-size_of_val-le-MAX_BYTES_FOR_REVERSALS-clause-list : goal.returns-then-size_of_val-le-MAX_BYTES_FOR_REVERSALS-clause-list
returns-then-size_of_val-le-MAX_BYTES_FOR_REVERSALS-clause-list g c =
    let a = c.args in
    let keep = c.len.result - (a.end - a.start) in
    moved_by_reversals a.items.now.items c.reverse_from.new.items.items c.reverse_between.new.items.items a.start a.end keep c.requires.within.0 c.requires.within.1 (omega (arith, c.len.ensures, a.items.now.ok.0)) c.reverse_from.ensures.list c.reverse_between.ensures.list
