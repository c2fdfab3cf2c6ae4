use Rattle.vecmap_base.specs.{Kept.KeptSoFar, Updated.{Keeping, WritesValueAt}}
use Rattle.vecmap_base.proofs.update.update_pairs.Given as goal

abbrev pub invariant-loop-pair : goal.invariant-loop-pair
invariant-loop-pair g l = KeptSoFar (Keeping (WritesValueAt g.F.FnMut tt)) l.initial.f l.f l.initial.pairs l.pairs l.pair-index l.pair-index
