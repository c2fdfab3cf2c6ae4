-- As in `items_distinct`, on the list of the keys: it is distinct exactly if its rest from `i` on is.
use Rattle.std.proofs.Common.{◌+◌, ◌<◌, ◌≤◌, get_or, is_some, length, refl, sym, ap, ◌∙◌, true≢false, arith}
use Rattle.std.{proofs.lemmas.Map.Entries.length-keys_of, specs.Map.keys_of}
use Rattle.vecmap_base.proofs.{DistinctLemmas.{distinct_more, repeat_at, distinct_all}, PairsLemmas.{ByIndex.is_some_index_of_rest, Values.key_at}}
use Rattle.vecmap_base.proofs.distinct.keys_distinct.Goals as goal

pub returns-then-is_some : goal.returns-then-is_some
returns-then-is_some g c =
    let ks = keys_of c.args.pairs.now in
    let i = c.loop-i.i in
    let k = (get_or c.args.pairs.now i c.index-pairs-i.result).0 in
    let l : i < length ks = omega (arith, length-keys_of c.args.pairs.now) in
    let found = sym (is_some_index_of_rest g.K.PartialEq.eq c.args.pairs.now (i + 1) k) ∙ ap is_some (sym c.find.ensures.index) ∙ sym c.is_some.ensures ∙ c.if-is_some.true in
    (λ t. absurd (true≢false (sym t)), λ d. absurd (repeat_at g.K.PartialEq.eq ks i k l (key_at c.args.pairs.now i c.index-pairs-i.result k c.loop-i-test.true) found c.loop-i.invariant d))

pub loop-i-preserved : goal.loop-i-preserved
loop-i-preserved g c =
    let ks = keys_of c.args.pairs.now in
    let i = c.loop-i.i in
    let k = (get_or c.args.pairs.now i c.index-pairs-i.result).0 in
    let l : i < length ks = omega (arith, length-keys_of c.args.pairs.now) in
    let none = sym (is_some_index_of_rest g.K.PartialEq.eq c.args.pairs.now (i + 1) k) ∙ ap is_some (sym c.find.ensures.index) ∙ sym c.is_some.ensures ∙ c.if-is_some.false in
    distinct_more g.K.PartialEq.eq ks i k l (key_at c.args.pairs.now i c.index-pairs-i.result k c.loop-i-test.true) none c.loop-i.invariant

pub returns : goal.returns
returns g c =
    let ks = keys_of c.args.pairs.now in
    let l : length ks ≤ c.loop-i.i = omega (arith, length-keys_of c.args.pairs.now) in
    (λ t. distinct_all g.K.PartialEq.eq ks c.loop-i.i l c.loop-i.invariant, λ d. refl)
