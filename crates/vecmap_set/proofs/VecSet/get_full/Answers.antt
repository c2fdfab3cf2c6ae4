use Rattle.std.proofs.{Common.{◌≡◌, ◌∙◌, Some, ap, position, refl, sym}, lemmas.{List.Quantifiers.position-Some, Option.slice_get_read}}
use Rattle.vecmap_set.proofs.VecSet.get_full.Goals as goal

pub returns-clause-at : goal.returns-clause-at
returns-clause-at g c =
    let test = g.Q.Equivalent.equivalent c.args.query in
    let s = c.self.inside.items.items in
    let place : position test s ≡ Some c.in_ok-index.index = ap (position test) (sym c.deref.ensures.value) ∙ sym c.find_item_equivalent.ensures.index ∙ c.in_ok-index.was in
    let at = position-Some test s c.in_ok-index.index c.index.result.now place in
    (rw (← c.self.view_is) (slice_get_read s _ c.in_ok-index.index c.index.result.now refl at.0 c.index.ensures), ap test c.index.ensures ∙ at.1)
