use Rattle.std.proofs.{Common.arith, lemmas.Grind.common_steps}
use Rattle.vecmap_base.proofs.WalkLemmas.{shows_in_order, shows_in_reverse}
use Rattle.vecmap_base.proofs.iter.by_reference.IterOf.over_items.Goals as goal

pub returns : goal.returns
returns g c = (grind (arith, common_steps), grind (arith, common_steps), shows_in_order g.P.PartRef.shows, shows_in_reverse g.P.PartRef.shows)
