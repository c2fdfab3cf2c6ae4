use Rattle.std.{proofs.Common.{◌≡◌, take, true}, specs.List.AllZip}
use Rattle.vecmap_base.specs.Equality.{same_pair}
use Rattle.vecmap_base.proofs.equality.equal_front.Given as goal

abbrev pub invariant-loop-i : goal.invariant-loop-i
invariant-loop-i g l = AllZip (λ p q. same_pair g.K.PartialEq.eq g.V.PartialEq.eq p q ≡ true) (take l.i l.a) (take l.i l.b)
