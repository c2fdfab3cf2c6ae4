use Rattle.std.proofs.{Common.{◌∙◌, ap, arith, position, refl, rules, sym, ◌+◌}, lemmas.List.take_all}
use Rattle.vecmap_base.proofs.{DuplicatesLemmas.ComparisonCounts.{key_search_absent, key_search_found}, IndexLemmas.{none_before_next, position_at}}
use Rattle.vecmap_base.proofs.PairsLemmas.ByIndex.{index_by_is}
use Rattle.vecmap_base.proofs.duplicates.find_counted.Goals as goal

pub loop-index-preserved : goal.loop-index-preserved
loop-index-preserved g c = (
  search rules,
  none_before_next (λ p. g.K.PartialEq.eq c.args.key.now p.0) c.args.front.now c.loop-index.index (c.loop-index.index + 1) c.index-front-index.result c.loop-index-test.true refl c.index-front-index.is (sym c.same.ensures.equal ∙ c.if-same.false) c.loop-index.invariant.1,
)

pub returns-then-same-clause-index : goal.returns-then-same-clause-index
returns-then-same-clause-index g c =
    sym (index_by_is (g.K.PartialEq.eq c.args.key.now) c.args.front.now ∙ position_at (λ p. g.K.PartialEq.eq c.args.key.now p.0) c.args.front.now c.loop-index.index c.index-front-index.result c.loop-index-test.true c.index-front-index.is (sym c.same.ensures.equal ∙ c.if-same.true) c.loop-index.invariant.1)

pub returns-then-same-clause-counted : goal.returns-then-same-clause-counted
returns-then-same-clause-counted g c =
    omega (arith, key_search_found g.K.PartialEq.eq c.args.front.now c.args.key.now c.loop-index.index (sym (returns-then-same-clause-index g c)))

pub returns-clause-index : goal.returns-clause-index
returns-clause-index g c =
    let all = take_all c.loop-index.index c.args.front.now c.loop-index-test.false in
    sym (index_by_is (g.K.PartialEq.eq c.args.key.now) c.args.front.now ∙ sym (ap (position (λ p. g.K.PartialEq.eq c.args.key.now p.0)) all) ∙ c.loop-index.invariant.1)

pub returns-clause-counted : goal.returns-clause-counted
returns-clause-counted g c =
    omega (arith, key_search_absent g.K.PartialEq.eq c.args.front.now c.args.key.now (sym (returns-clause-index g c)))
