use Rattle.std.proofs.Common.{◌≡◌, ◌+◌, ◌-◌, ◌^◌, drop, map, min, take}
use Rattle.vecmap_callers.proofs.registry.raise_in_slice.Given as goal

abbrev pub invariant-loop-pair : goal.invariant-loop-pair
invariant-loop-pair l = (take l.pair-index l.slice ≡ map (λ p. (p.0, min (p.1 + 1) (2 ^ 32 - 1))) (take l.pair-index l.initial.slice)) × (drop l.pair-index l.slice ≡ drop l.pair-index l.initial.slice)
