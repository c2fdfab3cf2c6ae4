use Rattle.std.proofs.{Common.{FitsSigned, Some, ap, rules, sym, w64, ◌∙◌}, lemmas.Int.to_z-of_z}
use Rattle.vecmap_run.proofs.TextLemmas.{write_found}
use Rattle.vecmap_run.proofs.answer.insert.Goals as goal

pub returns-in-Some : goal.returns-in-Some
returns-in-Some c =
    let given : FitsSigned w64 c.args.value = c.ranges.value in
    let stored : FitsSigned w64 c.replace.result = search rules in
    let found = write_found c.args.key.now c.args.map.now.entries c.in-Some.stored.now c.args.value (sym c.in-Some.ensures.value) in
    (found.0, found.1, simp to_z-of_z (ap Some c.replace.ensures.value ∙ found.2), rw (simp to_z-of_z at c.replace.ensures.after) found.3)

pub returns-in-Ok : goal.returns-in-Ok
returns-in-Ok c =
    let given : FitsSigned w64 c.args.value = c.ranges.value in
    let added = c.in-Ok.ensures.ok in
    (added.0, added.1, sym added.2, simp to_z-of_z at added.3)
