use Rattle.std.{proofs.Common.{Some, ap, arith, length, length-append}, specs.Slice.Iter.iter_rest}
use Rattle.vecmap_set.{specs.Lazy.{filtered_rest, lacks_item}, proofs.LazyLemmas.{length_union_rest, within_sum}}
use Rattle.vecmap_set.proofs.lazy.union.UnionIterator.size_hint.Goals as goal

pub returns-clause-bounds : goal.returns-clause-bounds
returns-clause-bounds g c =
    let s = c.self.inside in
    let sum = c.add_bounds.ensures (length (iter_rest s.first)) (length s.second.ahead) (ap Some c.len-first.ensures.value) (ap (λ h. h.1) c.size_hint-second.ensures.hint) in
    rw (← c.self.view_is) (λ _. omega (arith, c.len-first.ensures.value, length-append (iter_rest s.first) (filtered_rest (lacks_item g.T.PartialEq.eq) s.second)), within_sum c.add_bounds.result _ _ _ sum (length_union_rest g.T.PartialEq.eq (record { first = iter_rest s.first; second = s.second })))
