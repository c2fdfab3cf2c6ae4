use Rattle.std.{proofs.Common.{◌∷◌, take}, specs.{Fmt.{HasWritten, IsPlainFormatter}, List.flat_map}}
use Rattle.vecmap_run.specs.Print.{printed_pair}
use Rattle.vecmap_run.proofs.print.PrintedPairsDisplay.fmt.Given as goal

-- The pairs so far have been written, each after a space.
abbrev pub invariant-loop-pair : goal.invariant-loop-pair
invariant-loop-pair g l =
    IsPlainFormatter l.initial.f →
    HasWritten g.W.Write.write_str_gives l.initial.f (flat_map (λ next. 32 ∷ printed_pair next) (take l.pair-index l.others)) l.f
