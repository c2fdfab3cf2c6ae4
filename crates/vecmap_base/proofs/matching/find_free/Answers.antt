-- Before the first equal key no pair is the same. The loop keeps that none before `at` is both unmarked and the same.
use Rattle.std.proofs.{Common.{◌≡◌, ◌&&◌, Bool, ap, arith, false, get_or, not, sym, true, ◌∙◌}, lemmas.Bool.and_from}
use Rattle.std.proofs.{lemmas.List.get_or_default, lemmas.List.Quantifiers.position-Some}
use Rattle.vecmap_base.specs.Equality.{same_pair}
use Rattle.vecmap_base.proofs.PairsLemmas.ByIndex.{index_by_is}
use Rattle.vecmap_base.proofs.MatchingLemmas.{none_free, none_free_absent, none_free_before, none_free_next, other_value}
use Rattle.vecmap_base.proofs.matching.find_free.Goals as goal
use Rattle.vecmap_base.proofs.matching.find_free.Goals.{else-not-taken-first-via-then-not-taken-first+else-eq, else-not-taken-first-via-else-not-taken-first}

pub returns-in_err-first-clause-none : goal.returns-in_err-first-clause-none
returns-in_err-first-clause-none g c = λ e. none_free_absent g.K.PartialEq.eq g.V.PartialEq.eq c.args.pairs.now c.args.taken.now c.args.pair.now c.requires.enough c.in_err-first.ensures.index

pub returns-then-eq-clause-equal : goal.returns-then-eq-clause-equal
returns-then-eq-clause-equal g c =
    let pairs = c.args.pairs.now in
    let pair = c.args.pair.now in
    let first = c.in_ok-first.first in
    let stored = get_or_default pairs first c.index-pairs-first.result pair c.in_ok-first.ensures.within in
    let key = (position-Some (λ (p : g.row.K.Denot × g.row.V.Denot). g.K.PartialEq.eq pair.0 p.0) pairs first pair (sym (index_by_is (g.K.PartialEq.eq pair.0) pairs) ∙ sym c.in_ok-first.ensures.index)).1 in
    and_from _ _ key (sym (ap (λ (p : g.row.K.Denot × g.row.V.Denot). g.V.PartialEq.eq pair.1 p.1) stored) ∙ sym c.eq.ensures ∙ c.if-eq.true)

pub loop-at-init : goal.loop-at-init
loop-at-init g c =
    let pairs = c.args.pairs.now in
    let pair = c.args.pair.now in
    let first = c.in_ok-first.first in
    let within = c.in_ok-first.ensures.within in
    let mark = get_or_default c.args.taken.now first false true (omega (arith, within, c.requires.enough)) in
    let before = none_free_before g.K.PartialEq.eq g.V.PartialEq.eq pairs c.args.taken.now pair first c.in_ok-first.ensures.index in
    let here : (not (get_or c.args.taken.now first true) && same_pair g.K.PartialEq.eq g.V.PartialEq.eq pair (get_or pairs first pair)) ≡ false =
    elim c.else-not-taken-first.branch [
      | else-not-taken-first-via-then-not-taken-first+else-eq w ↦
          let stored = get_or_default pairs first w.index-pairs-first.result pair within in
          let differ = sym (ap (λ (p : g.row.K.Denot × g.row.V.Denot). g.V.PartialEq.eq pair.1 p.1) stored) ∙ sym w.eq.ensures ∙ w.if-eq.false in
          other_value g.K.PartialEq.eq g.V.PartialEq.eq (get_or c.args.taken.now first true) pair (get_or pairs first pair) differ
      | else-not-taken-first-via-else-not-taken-first w ↦ ap (λ (m : Bool). not m && same_pair g.K.PartialEq.eq g.V.PartialEq.eq pair (get_or pairs first pair)) (sym mark ∙ w.if-not-taken-first.false)
    ] in
    none_free_next g.K.PartialEq.eq g.V.PartialEq.eq pairs c.args.taken.now pair first before here

pub returns-clause-none : goal.returns-clause-none
returns-clause-none g c = λ e. none_free (same_pair g.K.PartialEq.eq g.V.PartialEq.eq c.args.pair.now) c.args.pairs.now c.args.taken.now c.args.pair.now c.requires.enough (λ k lt. c.loop-at.invariant k (let end = c.loop-at-test.false in omega (arith, lt, end)))
