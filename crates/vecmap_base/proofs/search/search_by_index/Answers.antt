-- The loops keep `Narrowed`: what is known of the item at `base` and of those from `base + size` on.
use Rattle.std.specs.Ordering.{is_le}
use Rattle.std.proofs.Common.{◌≡◌, ◌+◌, ◌-◌, ◌*◌, ◌/◌, ◌<◌, Ordering, ap, arith, if◌then◌else◌, length, refl, subst, sym, true≢false, ◌∙◌}
use Rattle.vecmap_base.proofs.SearchLemmas.{Narrowed, halved, narrowed_first, narrowed_greater, narrowed_less, narrowed_none, narrowed_on, narrowed_quarter, no_step_past, no_three_past, one_if, product, quartered}
use Rattle.vecmap_base.proofs.search.search_by_index.Goals as goal
use Rattle.vecmap_base.proofs.search.search_by_index.Goals.{else-by_quarters, else-loop-size-test, else-start-gt0, then-by_quarters+then-size-gt1, then-loop-size-test+else-size-ge4, then-start-gt0}

pub loop-size-init : goal.loop-size-init
loop-size-init g c =
    let items = c.args.items.now in
    let size = c.power_within-size.result in
    let start = length items - size in
    let base = start * c.from.result in
    let part = c.power_within-size.ensures in
    let step = product start c.from.result c.if-start-gt0.from c.from.ensures in
    let within = no_step_past start base c.if-start-gt0.from step in
    record {
      power = part.power;
      positive = omega (arith, part.half, c.if-len-eq0.false);
      within = omega (arith, within, part.within);
      narrowed = λ ord by. elim c.if-start-gt0.branch [
        | then-start-gt0 w ↦
            narrowed_first ord items start size base w.is_le.result (omega (arith, part.half)) (omega (arith, part.within)) (step ∙ ap (λ b. if b then start else 0) w.from-is)
            (λ d. subst (λ (o : Ordering). is_le o ≡ w.is_le.result) (by start _ (omega (arith, part.half, part.within, c.if-len-eq0.false)) w.f.ensures d) (sym w.is_le.ensures))
        | else-start-gt0 w ↦ subst (λ i. Narrowed ord items i size) (omega (arith, within, w.if-start-gt0.false)) (narrowed_none ord items size (omega (arith, part.within, w.if-start-gt0.false)))
      ];
    }

pub loop-size-preserved : goal.loop-size-preserved
loop-size-preserved g c =
    let base = c.loop-size.base in let size = c.loop-size.size in let quarter = size / 4 in
    let now = c.loop-size.invariant in
    let parts = quartered size now.power.0 now.power.1 c.if-size-ge4.true in
    let step = c.times.result in
    let more : 0 < quarter = omega (arith, parts.1, now.positive) in
    let within = no_three_past quarter step c.is_le-first.result c.is_le-second.result c.is_le-third.result c.times.ensures in
    record {
      power = parts.0;
      positive = more;
      within = omega (arith, within, parts.1, now.within);
      narrowed = λ ord by.
          narrowed_quarter ord c.args.items.now base size quarter step c.is_le-first.result c.is_le-second.result c.is_le-third.result parts.1 now.within more c.times.ensures
          (λ d. subst (λ (o : Ordering). is_le o ≡ c.is_le-first.result) (by (base + quarter) _ (omega (arith, parts.1, more, now.within)) c.f-in-loop-size.ensures d) (sym c.is_le-first.ensures))
          (λ d. subst (λ (o : Ordering). is_le o ≡ c.is_le-second.result) (by (base + 2 * quarter) _ (omega (arith, parts.1, more, now.within)) c.f-in-loop-size-2.ensures d) (sym c.is_le-second.ensures))
          (λ d. subst (λ (o : Ordering). is_le o ≡ c.is_le-third.result) (by (base + 3 * quarter) _ (omega (arith, parts.1, more, now.within)) c.f-in-loop-size-3.ensures d) (sym c.is_le-third.ensures))
          (now.narrowed ord by);
    }

pub loop-size-2-init : goal.loop-size-2-init
loop-size-2-init g c =
    let items = c.args.items.now in
    let base = c.loop-size.base in let size = c.loop-size.size in
    let now = c.loop-size.invariant in
    elim c.if-by_quarters.branch [
      | then-by_quarters+then-size-gt1 w ↦
          let step = w.from-then-size-gt1.result in
          let halves = halved size now.power.0 now.power.1 w.if-size-gt1.true in
          let two : size ≡ 2 = elim c.loop-size-test.branch [
            | then-loop-size-test+else-size-ge4 v ↦ omega (arith, halves.1, v.if-size-ge4.false, w.if-size-gt1.true)
            | else-loop-size-test v ↦ absurd (true≢false (sym w.if-by_quarters.true ∙ v.loop-size-test.false))
          ] in
          let is_up = w.is_le-then-size-gt1.result in
          let by_one = one_if step is_up w.from-then-size-gt1.ensures in
          rw (w.size-is, w.base-is) (record {
            power = (0, refl);
            positive = omega arith;
            within = omega (arith, no_step_past 1 step is_up by_one, two, now.within);
            narrowed = λ ord by.
                narrowed_on ord items base size 1 1 step is_up (omega arith) (omega (arith, two)) by_one
                (λ d. subst (λ (o : Ordering). is_le o ≡ is_up) (by (base + 1) _ (omega (arith, two, now.within)) w.f-then-size-gt1.ensures d) (sym w.is_le-then-size-gt1.ensures))
                (now.narrowed ord by);
          })
      | else-by_quarters w ↦ rw (w.size-is, w.base-is) now
    ]

pub loop-size-2-preserved : goal.loop-size-2-preserved
loop-size-2-preserved g c =
    let base = c.loop-size-2.base in let size = c.loop-size-2.size in let half = size / 2 in
    let now = c.loop-size-2.invariant in
    let halves = halved size now.power.0 now.power.1 c.loop-size-2-test.true in
    let within = no_step_past half c.zero_unless.result c.is_le-in-loop-size-2.result c.zero_unless.ensures in
    record {
      power = halves.0;
      positive = omega (arith, halves.1, now.positive);
      within = omega (arith, within, halves.1, now.within);
      narrowed = λ ord by.
          narrowed_on ord c.args.items.now base size half half c.zero_unless.result c.is_le-in-loop-size-2.result (omega arith) (omega (arith, halves.1)) c.zero_unless.ensures
          (λ d. subst (λ (o : Ordering). is_le o ≡ c.is_le-in-loop-size-2.result) (by (base + half) _ (omega (arith, halves.1, now.within)) c.f-in-loop-size-2-2.ensures d) (sym c.is_le-in-loop-size-2.ensures))
          (now.narrowed ord by);
    }

pub returns-in-Less-clause-index : goal.returns-in-Less-clause-index
returns-in-Less-clause-index g c =
    let base = c.loop-size-2.base in
    λ ord by.
    narrowed_less ord c.args.items.now base c.loop-size-2.size (omega arith) (omega arith)
    (λ d. sym (by base _ (omega arith) c.f-2.ensures d) ∙ c.in-Less.is)
    (c.loop-size-2.invariant.narrowed ord by)

pub returns-clause-index : goal.returns-clause-index
returns-clause-index g c =
    let base = c.loop-size-2.base in
    λ ord by.
    narrowed_greater ord c.args.items.now base c.loop-size-2.size
    (λ d. sym (by base _ (omega arith) c.f-2.ensures d) ∙ c.in-Greater.is)
    (c.loop-size-2.invariant.narrowed ord by)
