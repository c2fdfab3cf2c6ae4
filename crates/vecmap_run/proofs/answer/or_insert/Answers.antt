use Rattle.std.proofs.{Common.{FitsSigned, Some, ap, rules, sym, unwrap_or, w64}, lemmas.Int.to_z-of_z}
use Rattle.vecmap_run.proofs.TextLemmas.{keep_found}
use Rattle.vecmap_run.proofs.answer.or_insert.Goals as goal

pub returns-in-Some : goal.returns-in-Some
returns-in-Some c =
    let stored : FitsSigned w64 c.in-Some.found.now = search rules in
    let found = keep_found c.args.key.now c.args.map.now.entries c.in-Some.found.now c.args.value (sym c.in-Some.ensures.returned) in
    (found.0, found.1, simp to_z-of_z found.2, found.3)

pub returns-in-Ok : goal.returns-in-Ok
returns-in-Ok c =
    let given : FitsSigned w64 c.args.value = c.ranges.value in
    let added = c.in-Ok.ensures.ok in
    (added.0, added.1, simp to_z-of_z (ap (λ found. Some (unwrap_or found c.args.value)) (sym added.2)), rw added.2 (simp to_z-of_z at added.3))
