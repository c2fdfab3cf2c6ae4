use Rattle.vecmap_base.proofs.MatchingLemmas.{NoneFree}
use Rattle.vecmap_base.proofs.matching.find_free.Given as goal

abbrev pub invariant-loop-at : goal.invariant-loop-at
invariant-loop-at g l = NoneFree g.K.PartialEq.eq g.V.PartialEq.eq l.pairs l.taken l.pair l.at
