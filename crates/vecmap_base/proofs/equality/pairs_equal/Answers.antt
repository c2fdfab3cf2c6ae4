-- Equal pairs at the front do not matter, so the remaining pairs decide. They have one length, so the counts of one
-- side are enough.
use Rattle.std.proofs.{Common.{◌≡◌, [], arith, drop, length, sym, ◌∙◌}, lemmas.List.{drop_all, length-drop, take_rest}}
use Rattle.vecmap_base.specs.Equality.{counts_agree, has_same_counts}
use Rattle.vecmap_base.proofs.EqualityLemmas.{Maps.past_front, Partial.{partial_map_equal_by_half, partial_map_lengths_differ}}
use Rattle.vecmap_base.proofs.equality.pairs_equal.Goals as goal

pub returns-then-a-b : goal.returns-then-a-b
returns-then-a-b g c = sym (partial_map_lengths_differ g.K.PartialEq.eq g.V.PartialEq.eq g.met.K.Eq.laws g.met.V.PartialEq.laws c.args.a.now c.args.b.now c.if-a-b.true)

pub returns-then-start-a : goal.returns-then-start-a
returns-then-start-a g c =
    let a = c.args.a.now in
    let b = c.args.b.now in
    let start = c.equal_front-start.result in
    let no_a : drop start a ≡ [] = drop_all start a (omega (arith, c.if-start-a.true)) in
    let no_b : drop start b ≡ [] = drop_all start b (omega (arith, c.if-start-a.true)) in
    sym (λ t. has_same_counts g.K.PartialEq.eq g.V.PartialEq.eq (no_a t) (no_b t))
    ∙ past_front g.K.PartialEq.eq g.V.PartialEq.eq g.met.K.Eq.laws g.met.V.PartialEq.laws start a b c.equal_front-start.ensures.equal

pub returns : goal.returns
returns g c =
    let key = g.K.PartialEq.eq in
    let value = g.V.PartialEq.eq in
    let k = g.met.K.Eq.laws in
    let v = g.met.V.PartialEq.laws in
    let a = c.args.a.now in
    let b = c.args.b.now in
    let start = c.equal_front-start.result in
    let as_long : length (drop start a) ≡ length (drop start b) = omega (arith, length-drop start a, length-drop start b) in
    c.rests_equal.ensures ∙ (λ t. counts_agree key value (take_rest a start t) (take_rest a start t) (take_rest b start t))
    ∙ sym (partial_map_equal_by_half key value k v (drop start a) (drop start b) as_long) ∙ past_front key value k v start a b c.equal_front-start.ensures.equal
