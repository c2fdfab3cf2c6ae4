use Rattle.std.proofs.Common.{◌≡◌, ◌&&◌, Bool, ap, arith, length, sym, true, ◌∙◌}
use Rattle.vecmap_base.specs.Equality.{same_pair}
use Rattle.vecmap_base.proofs.{EqualityLemmas.Partial.same_pair_partial, MatchingLemmas.{one_differs, two_agree_at}}
use Rattle.vecmap_base.proofs.matching.pairs_match_crosswise.Goals as goal

pub returns-then-a-eq1 : goal.returns-then-a-eq1
returns-then-a-eq1 g c =
    let same = same_pair g.K.PartialEq.eq g.V.PartialEq.eq in
    let laws = same_pair_partial g.K.PartialEq.eq g.V.PartialEq.eq g.met.K.Eq.laws g.met.V.PartialEq.laws in
    let one : length c.args.a.now ≡ 1 = omega (arith, c.if-a-eq1.true) in
    sym (one_differs same laws c.args.a.now c.args.b.now one (omega (arith, one, c.requires.as_long)) (λ d. c.requires.first_differ d c.requires.not_empty))

pub returns-then-is_same : goal.returns-then-is_same
returns-then-is_same g c =
    let same = same_pair g.K.PartialEq.eq g.V.PartialEq.eq in
    let laws = same_pair_partial g.K.PartialEq.eq g.V.PartialEq.eq g.met.K.Eq.laws g.met.V.PartialEq.laws in
    let x = c.index-a-0.result in
    let w = c.index-a-1.result in
    let y = c.index-b-0.result in
    let z = c.index-b-1.result in
    let two : length c.args.a.now ≡ 2 = omega (arith, c.if-a-eq1.false, c.requires.not_empty, c.requires.at_most_two) in
    let like : same x z ≡ true = sym c.is_same.ensures ∙ c.if-is_same.true in
    c.is_same-then-is_same.ensures ∙ sym (ap (λ (e : Bool). e && same w y) like)
    ∙ sym (two_agree_at same laws c.args.a.now c.args.b.now x w y z two (omega (arith, two, c.requires.as_long)) (λ d. c.requires.first_differ d c.requires.not_empty) c.index-a-0.is c.index-a-1.is c.index-b-0.is c.index-b-1.is)
