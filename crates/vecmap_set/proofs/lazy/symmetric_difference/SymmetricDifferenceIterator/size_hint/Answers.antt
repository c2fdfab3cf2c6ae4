use Rattle.std.proofs.Common.{ap, arith, length}
use Rattle.vecmap_set.proofs.LazyLemmas.{length_symmetric_rest, within_sum}
use Rattle.vecmap_set.proofs.lazy.symmetric_difference.SymmetricDifferenceIterator.size_hint.Goals as goal

pub returns-clause-bounds : goal.returns-clause-bounds
returns-clause-bounds g c =
    let s = c.self.inside in
    let sum = c.add_bounds.ensures (length s.first.ahead) (length s.second.ahead) (ap (λ h. h.1) c.size_hint-first.ensures.hint) (ap (λ h. h.1) c.size_hint-second.ensures.hint) in
    rw (← c.self.view_is) (λ _. omega arith, within_sum c.add_bounds.result _ _ _ sum (length_symmetric_rest g.T.PartialEq.eq (record { first = s.first; second = s.second })))
