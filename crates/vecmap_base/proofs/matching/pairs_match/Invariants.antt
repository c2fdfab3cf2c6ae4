use Rattle.std.proofs.Common.{◌≤◌, drop, length}
use Rattle.vecmap_base.{specs.Equality.same_pair, proofs.{EqualityLemmas.Partial.same_pair_partial, MatchingLemmas.MatchedPartial}}
use Rattle.vecmap_base.proofs.matching.pairs_match.Given as goal

abbrev pub invariant-loop-i : goal.invariant-loop-i
invariant-loop-i g l = MatchedPartial (same_pair g.K.PartialEq.eq g.V.PartialEq.eq) (same_pair_partial g.K.PartialEq.eq g.V.PartialEq.eq g.met.K.Eq.laws g.met.V.PartialEq.laws) l.a l.b (drop l.i l.a) l.taken × (length l.b ≤ length l.taken)
