use Rattle.std.{specs.Set.is_member, proofs.{Common.{◌≡◌, ◌∙◌, ap, arith, false, sym}, lemmas.List.take_all}}
use Rattle.vecmap_base.proofs.DuplicatesLemmas.ComparisonCounts.{search_cost_absent, search_cost_at}
use Rattle.vecmap_base.proofs.duplicates.contains_counted.Goals as goal

pub returns-then-same-clause-counted : goal.returns-then-same-clause-counted
returns-then-same-clause-counted g c =
    omega (arith, search_cost_at g.T.PartialEq.eq c.args.front.now c.args.item.now c.loop-stored.stored-index c.stored-item.result c.loop-stored-test.true c.stored-item.is (sym c.same.ensures.equal ∙ c.if-same.true) c.loop-stored.invariant.1)

pub returns-clause-counted : goal.returns-clause-counted
returns-clause-counted g c =
    let all = take_all c.loop-stored.stored-index c.args.front.now c.loop-stored-test.false in
    let none : is_member g.T.PartialEq.eq c.args.front.now c.args.item.now ≡ false = sym (ap (λ l. is_member g.T.PartialEq.eq l c.args.item.now) all) ∙ c.loop-stored.invariant.1 in
    omega (arith, search_cost_absent g.T.PartialEq.eq c.args.front.now c.args.item.now none)
