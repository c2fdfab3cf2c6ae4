-- The loop keeps that the first `i` pairs of `a` are matched with the marked pairs of `b`. An unmatched pair has
-- unequal counts.
use Rattle.std.proofs.Common.{◌≡◌, ◌+◌, ◌<◌, arith, drop, false, get_or, length, length-set, refl, subst, sym, true, ◌∙◌}
use Rattle.std.{proofs.lemmas.List.take_rest, specs.List.list_any}
use Rattle.vecmap_base.{specs.Equality.{free, same_pair}, proofs.EqualityLemmas.Partial.same_pair_partial}
use Rattle.vecmap_base.proofs.MatchingLemmas.{all_matched_partial, first_matched_partial, first_unmatched_partial, one_matched_partial}
use Rattle.vecmap_base.proofs.MatchingLemmas.{unmatched_partial}
use Rattle.vecmap_base.proofs.matching.pairs_match.Goals as goal

pub returns-in_default : goal.returns-in_default
returns-in_default g c =
    let same = same_pair g.K.PartialEq.eq g.V.PartialEq.eq in
    let laws = same_pair_partial g.K.PartialEq.eq g.V.PartialEq.eq g.met.K.Eq.laws g.met.V.PartialEq.laws in
    let b = c.args.b.now in
    let marks = c.args.taken.now in
    let x = c.index-a-0.result in
    let differs : same x (get_or b 0 x) ≡ false = (λ t. same (c.index-a-0.is t) (get_or b 0 x)) ∙ c.requires.first_differ x c.requires.not_empty in
    let absent : list_any (same x) (free (drop 1 b) (drop 1 marks)) ≡ false = sym (λ t. list_any (same x) (free (take_rest b 1 t) (take_rest marks 1 t))) ∙ c.in_default.ensures.none refl in
    sym (first_unmatched_partial same laws c.args.a.now b x marks c.requires.not_empty c.requires.as_long c.requires.unmarked c.index-a-0.is differs absent)

pub loop-i-init : goal.loop-i-init
loop-i-init g c =
    let same = same_pair g.K.PartialEq.eq g.V.PartialEq.eq in
    let laws = same_pair_partial g.K.PartialEq.eq g.V.PartialEq.eq g.met.K.Eq.laws g.met.V.PartialEq.laws in
    let b = c.args.b.now in
    let marks = c.args.taken.now in
    let x = c.index-a-0.result in
    let first = c.in-Some.first in
    let within : first < length (drop 1 b) = subst (λ l. first < length l) (take_rest b 1) c.in-Some.ensures.within in
    let unmarked : get_or (drop 1 marks) first true ≡ false = subst (λ l. get_or l first true ≡ false) (take_rest marks 1) c.in-Some.ensures.unmarked in
    let like : same x (get_or (drop 1 b) first x) ≡ true = subst (λ l. same x (get_or l first x) ≡ true) (take_rest b 1) c.in-Some.ensures.equal in
    (first_matched_partial same laws c.args.a.now b first x marks c.requires.not_empty c.requires.as_long c.requires.unmarked c.index-a-0.is within unmarked like, omega (arith, c.requires.enough, length-set marks (1 + first) true))

pub returns-in-None : goal.returns-in-None
returns-in-None g c =
    let same = same_pair g.K.PartialEq.eq g.V.PartialEq.eq in
    let laws = same_pair_partial g.K.PartialEq.eq g.V.PartialEq.eq g.met.K.Eq.laws g.met.V.PartialEq.laws in
    sym (unmatched_partial same laws c.args.a.now c.args.b.now c.loop-i.i c.index-a-i.result c.loop-i.taken c.loop-i-test.true c.index-a-i.is (c.in-None.ensures.none refl) c.loop-i.invariant.0)

pub loop-i-preserved : goal.loop-i-preserved
loop-i-preserved g c =
    let same = same_pair g.K.PartialEq.eq g.V.PartialEq.eq in
    let laws = same_pair_partial g.K.PartialEq.eq g.V.PartialEq.eq g.met.K.Eq.laws g.met.V.PartialEq.laws in
    let index = c.in-Some-find_free_near.index in
    let found = c.in-Some-find_free_near.ensures in (
      one_matched_partial same laws c.args.a.now c.args.b.now c.loop-i.i index c.index-a-i.result c.loop-i.taken c.loop-i-test.true c.index-a-i.is found.within found.unmarked found.equal c.loop-i.invariant.0,
      omega (arith, c.loop-i.invariant.1, length-set c.loop-i.taken index true),
    )

pub returns : goal.returns
returns g c =
    let same = same_pair g.K.PartialEq.eq g.V.PartialEq.eq in
    let laws = same_pair_partial g.K.PartialEq.eq g.V.PartialEq.eq g.met.K.Eq.laws g.met.V.PartialEq.laws in
    sym (all_matched_partial same laws c.args.a.now c.args.b.now c.loop-i.i c.loop-i.taken c.loop-i-test.false c.loop-i.invariant.0)
