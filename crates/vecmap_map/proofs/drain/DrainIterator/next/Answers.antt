-- The idea: once the remaining pairs are reversed, the last pair of the vector is the first of the drain.
use Rattle.std.proofs.Common.{ap, sym, ◌∙◌, arith}
use Rattle.vecmap_base.proofs.DrainLemmas.{first_pulled}
use Rattle.vecmap_map.proofs.drain.DrainIterator.next.Goals as goal

pub returns-clause-steps : goal.returns-clause-steps
returns-clause-steps g c =
    let d = c.set_reversed.new.self in
    let ordered = c.set_reversed.ensures in
    let seen = c.map.view_is in
    let took = c.take_last.ensures in
    let pulled = first_pulled d.reversed d.map.now.entries c.take_last.new.self.items c.take_last.result d.keep
    ordered.ordered (omega (arith, ordered.count, ordered.keep, c.len.ensures.count, c.if-len-self.false)) (ap (λ s. s.entries) (sym seen) ∙ took.items) in
    (sym ordered.rest ∙ pulled.0, (ordered.keeps.0, pulled.1 ∙ ordered.keeps.1, took.capacity ∙ ap (λ s. s.capacity) seen ∙ ordered.keeps.2))
