use Rattle.std.proofs.{Common.{ap, arith, length}, lemmas.Grind.common_steps}
use Rattle.vecmap_set.proofs.LazyLemmas.{excludes_all}
use Rattle.vecmap_set.proofs.VecSet.symmetric_difference.Goals as goal

pub returns : goal.returns
returns g c =
    let a = c.self.inside.items in
    let b = c.other.inside.items in
    let all = excludes_all g.T.PartialEq.eq c.over.result _ _ c.over.ensures
    (omega (arith, ap length c.deref.ensures.value, a.ok, a.small)) (omega (arith, ap length c.deref-2.ensures.value, b.ok, b.small)) in
    (grind (arith, common_steps), all.1, all.2, all.3)
