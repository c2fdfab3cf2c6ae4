-- The idea: the index that was found has an equal element, and a replacement by an equal element keeps the set
-- distinct.
use Rattle.std.proofs.{Common.{◌≡◌, ◌∙◌, rules, sym, ap, Some}, lemmas.{List.Quantifiers.position-Some, Option.gets}}
use Rattle.vecmap_base.{specs.Items.item_index, proofs.{DistinctLemmas.distinct_replace, IndexLemmas.list_any_position}}
use Rattle.vecmap_set.proofs.{SetInsertionLemmas.puts_item, SetRemovalLemmas.finds_item}
use Rattle.vecmap_set.proofs.VecSet.replace.Goals as goal

pub invariant_of-self : goal.invariant_of-self
invariant_of-self g c =
    let place : item_index g.T.PartialEq.eq c.self.inside.items.items c.args.item ≡ Some c.in-Some.index = ap (λ s. item_index g.T.PartialEq.eq s c.args.item) (sym c.deref.ensures.value) ∙ sym c.find_item.ensures.index ∙ c.in-Some.is in
    let at = position-Some (g.T.PartialEq.eq c.args.item) c.self.inside.items.items c.in-Some.index c.args.item place in
    rw c.replace.ensures.after (distinct_replace g.T.PartialEq.eq g.met.T.Eq.laws c.self.inside.items.items c.in-Some.index c.args.item at.0 at.1 c.self.invariant)

pub returns-in-Some-clause-insertion : goal.returns-in-Some-clause-insertion
returns-in-Some-clause-insertion g c = puts_item g.T.PartialEq.eq g.met.T.Eq.laws c.args.self.now.elements _ (invariant_of-self g c) c.args.item (search (rules, list_any_position, gets))

pub returns-in-Some-clause-returned : goal.returns-in-Some-clause-returned
returns-in-Some-clause-returned g c = finds_item (g.T.PartialEq.eq c.args.item) c.args.self.now.elements _ (search (rules, gets))
