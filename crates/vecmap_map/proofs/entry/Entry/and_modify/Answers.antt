-- The idea: the write through `get_mut` leaves the value that `f` left, so the lemma on written values proves each
-- clause.
use Rattle.std.{proofs.Common.{ap, refl, subst, sym, ◌∙◌}, specs.{Map.Calls.{MayWrite, ModifiesValue}, Option.option_map_or}}
use Rattle.vecmap_map.{specs.Entry.{entries_with, entry_map, entry_value}, proofs.EntryLemmas.value_at_written}
use Rattle.vecmap_map.proofs.entry.Entry.and_modify.Goals as goal

pub returns-in-Occupied-clause-update : goal.returns-in-Occupied-clause-update
returns-in-Occupied-clause-update g c =
    let v = c.f.new.arg2 in
    let o = c.in-Occupied.entry in
    let old = ap entry_value c.in-Occupied.is ∙ c.get_mut.ensures.value in
    let new = value_at_written o.map.now.entries o.index o.within v in
    let did : MayWrite g.F.FnOnce c.args.f c.get_mut.result.now v
    = record { lent = c.get_mut.result; result = c.f.result; left = _; before = refl; met = c.f.ensures; after = refl } in
    subst (λ (p : _ × _). ModifiesValue g.F.FnOnce c.args.f p.0 p.1) (λ j. (sym old j, sym new j)) did

pub returns-in-Occupied-clause-list : goal.returns-in-Occupied-clause-list
returns-in-Occupied-clause-list g c =
    let v = c.f.new.arg2 in
    let o = c.in-Occupied.entry in
    sym (ap (λ w. option_map_or (entries_with c.args.self) w (entry_map c.args.self).entries) (value_at_written o.map.now.entries o.index o.within v) ∙ ap (λ e. entries_with e v) c.in-Occupied.is)
