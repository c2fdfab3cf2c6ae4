use Rattle.std.proofs.{Common.{FitsSigned, arith, w64}, lemmas.Int.to_z-of_z}
use Rattle.vecmap_run.proofs.answer.insert_at.Goals as goal

pub returns-in-Ok-insert_at : goal.returns-in-Ok-insert_at
returns-in-Ok-insert_at c =
    let fits : FitsSigned w64 c.args.value = c.ranges.value in
    let ok = c.in-Ok-insert_at.ensures in
    (omega arith, c.in-Ok.key, c.in-Ok.ensures.ok, ok.returned, simp to_z-of_z at ok.insertion.entries)
