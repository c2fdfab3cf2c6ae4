use Rattle.std.proofs.Common.{refl, ◌∙◌}
use Rattle.vecmap_map.proofs.EntryLemmas.{entries_swap_without_by, entries_with_put, entries_without_by, entry_value_is}
use Rattle.vecmap_base.proofs.{InsertionLemmas.sets_key, PairsLemmas.AtIndices.shifts_without, RemovalLemmas.{removes_by, swap_removes_by}}
use Rattle.vecmap_map.proofs.VecMap.entry.Goals as goal

pub returns-clause-insertion : goal.returns-clause-insertion
returns-clause-insertion g c = λ v. sets_key g.K.PartialEq.eq g.met.K.Eq.laws _ _ _ _ (entries_with_put g.K.PartialEq.eq _ _ _ v c.over.ensures.unchanged c.over.ensures.key c.over.ensures.index)

pub returns-clause-value : goal.returns-clause-value
returns-clause-value g c = entry_value_is g.K.PartialEq.eq _ _ _ c.over.ensures.unchanged c.over.ensures.index

pub returns-clause-removal : goal.returns-clause-removal
returns-clause-removal g c m is =
    let eq = g.K.PartialEq.eq in
    let o = g.met.K.Eq.laws in
    let left = is ∙ entries_without_by eq _ _ _ c.over.ensures.unchanged c.over.ensures.index in
    (removes_by (eq c.args.key) _ eq o (o.congr c.args.key) m left, shifts_without (eq c.args.key) _ m left)

pub returns-clause-swap_removal : goal.returns-clause-swap_removal
returns-clause-swap_removal g c m is =
    let eq = g.K.PartialEq.eq in
    let o = g.met.K.Eq.laws in
    swap_removes_by (eq c.args.key) _ eq o (o.congr c.args.key) m (is ∙ entries_swap_without_by eq _ _ _ c.over.ensures.unchanged c.over.ensures.index)

pub returns-clause-without : goal.returns-clause-without
returns-clause-without g c = (returns-clause-removal g c _ refl).0.updates

pub returns-clause-swap_without : goal.returns-clause-swap_without
returns-clause-swap_without g c = (returns-clause-swap_removal g c _ refl).updates
