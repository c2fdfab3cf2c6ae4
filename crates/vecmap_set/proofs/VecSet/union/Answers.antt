use Rattle.std.proofs.{Common.{ap, arith, length}, lemmas.Grind.common_steps}
use Rattle.vecmap_set.proofs.LazyLemmas.{joins_all}
use Rattle.vecmap_set.proofs.VecSet.union.Goals as goal

pub returns-then-len : goal.returns-then-len
returns-then-len g c =
    let a = c.other.inside.items in
    let b = c.self.inside.items in
    let all = joins_all g.T.PartialEq.eq c.over.result _ _ c.over.ensures
    (omega (arith, ap length c.deref.ensures.value, a.ok, a.small)) (omega (arith, ap length c.deref-then-len.ensures.value, b.ok, b.small)) in
    (grind (arith, common_steps), all.1, all.2, all.3)

pub returns-else-len : goal.returns-else-len
returns-else-len g c =
    let a = c.self.inside.items in
    let b = c.other.inside.items in
    let all = joins_all g.T.PartialEq.eq c.over-else-len.result _ _ c.over-else-len.ensures
    (omega (arith, ap length c.deref-else-len.ensures.value, a.ok, a.small)) (omega (arith, ap length c.deref-else-len-2.ensures.value, b.ok, b.small)) in
    (grind (arith, common_steps), all.1, all.2, all.3)
