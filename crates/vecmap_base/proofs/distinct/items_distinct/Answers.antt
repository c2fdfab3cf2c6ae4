-- The loop keeps that the list is distinct exactly if its rest from `i` on is. A duplicate refutes both sides at once.
use Rattle.std.proofs.Common.{◌+◌, is_some, refl, sym, ap, ◌∙◌, true≢false}
use Rattle.vecmap_base.proofs.{DistinctLemmas.{distinct_more, repeat_at, distinct_all}, ItemsLemmas.Members.is_some_item_index_rest}
use Rattle.vecmap_base.proofs.distinct.items_distinct.Goals as goal

pub returns-then-is_some : goal.returns-then-is_some
returns-then-is_some g c =
    let xs = c.args.items.now in
    let i = c.loop-i.i in
    let x = c.index-items-i.result in
    let found = sym (is_some_item_index_rest g.T.PartialEq.eq xs (i + 1) x) ∙ ap is_some (sym c.find_item.ensures.index) ∙ sym c.is_some.ensures ∙ c.if-is_some.true in
    (λ t. absurd (true≢false (sym t)), λ d. absurd (repeat_at g.T.PartialEq.eq xs i x c.loop-i-test.true c.index-items-i.is found c.loop-i.invariant d))

pub loop-i-preserved : goal.loop-i-preserved
loop-i-preserved g c =
    let xs = c.args.items.now in
    let i = c.loop-i.i in
    let x = c.index-items-i.result in
    let none = sym (is_some_item_index_rest g.T.PartialEq.eq xs (i + 1) x) ∙ ap is_some (sym c.find_item.ensures.index) ∙ sym c.is_some.ensures ∙ c.if-is_some.false in
    distinct_more g.T.PartialEq.eq xs i x c.loop-i-test.true c.index-items-i.is none c.loop-i.invariant

pub returns : goal.returns
returns g c = (λ t. distinct_all g.T.PartialEq.eq c.args.items.now c.loop-i.i c.loop-i-test.false c.loop-i.invariant, λ d. refl)
