use Rattle.std.proofs.{Common.{FitsSigned, None, string_eq, subst, sym, w64, ◌∙◌, ◌≡◌}, lemmas.Int.to_z-of_z}
use Rattle.vecmap.specs.Pairs.{has_text, lookup, lookup_by}
use Rattle.vecmap_base.proofs.{PairsLemmas.ByIndex.index_by_none, PairsLemmas.Puts.put_absent}
use Rattle.vecmap_run.proofs.answer.insert_absent.Goals as goal

pub returns-in-Ok-clause-ok : goal.returns-in-Ok-clause-ok
returns-in-Ok-clause-ok c =
    let given : FitsSigned w64 c.args.value = c.ranges.value in
    let l = c.args.map.now.entries in
    let key = c.in_ok-key.key in
    let absent : lookup string_eq l key ≡ None = subst (λ text. lookup_by (has_text text) l ≡ None) (sym c.in_ok-key.ensures.ok) c.requires.absent in
    (key, c.in_ok-key.ensures.ok, absent, (simp to_z-of_z at c.in-Ok.ensures.list) ∙ sym (put_absent string_eq l key c.args.value (index_by_none (string_eq key) l absent)))
