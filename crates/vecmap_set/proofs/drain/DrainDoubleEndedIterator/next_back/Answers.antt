-- The idea: once the remaining elements are in order, the last element of the vector is the last of the drain.
use Rattle.std.proofs.Common.{ap, sym, ◌∙◌, arith}
use Rattle.vecmap_base.proofs.DrainLemmas.{last_pulled}
use Rattle.vecmap_set.proofs.drain.DrainDoubleEndedIterator.next_back.Goals as goal

pub returns-clause-steps : goal.returns-clause-steps
returns-clause-steps g c =
    let d = c.set_reversed.new.self in
    let ordered = c.set_reversed.ensures in
    let seen = c.set.view_is in
    let took = c.take_last.ensures in
    let pulled = last_pulled d.reversed d.set.now.elements c.take_last.new.self.items c.take_last.result d.keep
    ordered.ordered (omega (arith, ordered.count, ordered.keep, c.len.ensures.count, c.if-len-self.false)) (ap (λ s. s.elements) (sym seen) ∙ took.items) in
    (sym ordered.rest ∙ pulled.0, (ordered.keeps.0, pulled.1 ∙ ordered.keeps.1, took.capacity ∙ ap (λ s. s.capacity) seen ∙ ordered.keeps.2))
