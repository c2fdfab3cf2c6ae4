use Rattle.std.proofs.{Common.{refl, sym, ◌∙◌}, lemmas.Option.same_Some}
use Rattle.vecmap_base.specs.Pairs.{value_at, with_value}
use Rattle.vecmap_map.proofs.EntryLemmas.{value_last, with_value_last}
use Rattle.vecmap_map.proofs.entry.vacant.VacantEntry.insert.Goals as goal

pub returns-in-Ok : goal.returns-in-Ok
returns-in-Ok g c =
    let l = c.args.self.map.now.entries in
    let pair : g.row.K.Denot × g.row.V.Denot = (c.args.self.key, c.args.value) in
    let put = c.in-Ok.ensures.list in
    let room = c.in-Ok.ensures.capacity in
    let end = c.len-index.ensures.count in (
      (refl, λ v _. ((λ j. with_value (put j) (end j) v) ∙ with_value_last l pair v, record { capacity = room.capacity; present = room.present; spare = room.spare }), tt),
      record {
        writes_back = tt;
        value = same_Some _ _ (sym c.value_mut.ensures.value ∙ (λ j. value_at (put j) (end j)) ∙ value_last l pair);
        given = tt;
      },
    )
