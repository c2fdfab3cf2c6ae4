use Rattle.std.proofs.Common.{◌+◌, ◌-◌, ◌^◌, min}
use Rattle.vecmap_laws.proofs.LoopLemmas.{mapped_more}
use Rattle.vecmap_callers.proofs.registry.raise_in_slice.Goals as goal

pub loop-pair-preserved : goal.loop-pair-preserved
loop-pair-preserved c = rw c.saturating_add-pair.ensures (mapped_more (λ p. (p.0, min (p.1 + 1) (2 ^ 32 - 1))) c.as_mut_slice-slice.result.now c.loop-pair.slice c.loop-pair.pair-index (0, 0) c.loop-pair-test.true c.loop-pair.auto.slice c.loop-pair.invariant)
