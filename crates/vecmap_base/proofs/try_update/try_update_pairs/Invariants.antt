use Rattle.std.specs.Prelude.{Ok}
use Rattle.vecmap_base.specs.{Kept.KeptSoFar, Updated.{Keeping, WritesValueAt}}
use Rattle.vecmap_base.proofs.try_update.try_update_pairs.Given as goal

abbrev pub invariant-loop-pair : goal.invariant-loop-pair
invariant-loop-pair g l = KeptSoFar (Keeping (WritesValueAt g.F.FnMut (Ok tt))) l.initial.f l.f l.initial.pairs l.pairs l.pair-index l.pair-index
