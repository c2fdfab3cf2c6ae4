use Rattle.std.proofs.{Common.rules, lemmas.Result.IfOk-weaker}
use Rattle.vecmap_base.proofs.PairsLemmas.ManyPairs.{makes_pairs}
use Rattle.vecmap_map.proofs.bulk.VecMapFromIteratorTuple2.from_iter.Goals as goal

pub returns : goal.returns
returns g c = record { ran = IfOk-weaker c.from_iter.result _ _ (λ map made. (made.0, made.1, made.2, search (rules, made.3), makes_pairs g.K.PartialEq.eq g.met.K.Eq.laws made.1 map.entries made.4)) c.from_iter.ensures.list }
