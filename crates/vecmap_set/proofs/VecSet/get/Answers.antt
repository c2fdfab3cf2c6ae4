use Rattle.std.proofs.{Common.{◌≡◌, ◌∙◌, Some, ap, position, rules, sym}, lemmas.List.Quantifiers.position-Some}
use Rattle.vecmap_base.proofs.IndexLemmas.{list_any_position}
use Rattle.vecmap_set.proofs.VecSet.get.Goals as goal

pub returns-clause-found : goal.returns-clause-found
returns-clause-found g c =
    let test = g.Q.Equivalent.equivalent c.args.query in
    let s = c.self.inside.items.items in
    let place : position test s ≡ Some c.in_ok-index.index = ap (position test) (sym c.deref.ensures.value) ∙ sym c.find_item_equivalent.ensures.index ∙ c.in_ok-index.was in
    (search (rules, list_any_position), ap test c.index.ensures ∙ (position-Some test s c.in_ok-index.index c.index.result.now place).1)
