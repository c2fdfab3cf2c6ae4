use Rattle.std.proofs.{Common.arith, lemmas.Grind.common_steps}
use Rattle.vecmap_base.proofs.WalkLemmas.{gives_in_order, gives_in_reverse}
use Rattle.vecmap_base.proofs.iter.by_value.IntoIterOf.over_items.Goals as goal

pub returns : goal.returns
returns g c = (grind (arith, common_steps), grind (arith, common_steps), gives_in_order, gives_in_reverse)
