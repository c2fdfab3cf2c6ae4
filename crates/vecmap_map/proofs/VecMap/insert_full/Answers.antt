use Rattle.std.proofs.Common.{arith, ap, sym, Some, ◌∙◌}
use Rattle.vecmap_base.proofs.{InsertionLemmas.adds_key, PairsLemmas.AtIndices.match_at}
use Rattle.vecmap_base.proofs.PairsLemmas.ByIndex.{put_by_index, value_found, value_written}
use Rattle.vecmap_map.proofs.VecMap.insert_full.Goals as goal

pub returns-in-Some-clause-insertion : goal.returns-in-Some-clause-insertion
returns-in-Some-clause-insertion g c =
    adds_key g.K.PartialEq.eq g.met.K.Eq.laws _ _ _ _ (grind (arith, value_written g.K.PartialEq.eq c.args.self.now.entries c.args.key c.args.value c.in-Some.index c.index_mut.result.now))

pub returns-in-Some-clause-returned : goal.returns-in-Some-clause-returned
returns-in-Some-clause-returned g c = grind (arith, value_found (g.K.PartialEq.eq c.args.key) c.args.self.now.entries c.in-Some.index c.index_mut.result.now)

pub returns-in-Some-clause-index : goal.returns-in-Some-clause-index
returns-in-Some-clause-index g c = grind arith

pub returns-in-Some-clause-at : goal.returns-in-Some-clause-at
returns-in-Some-clause-at g c = match_at (g.K.PartialEq.eq c.args.key) _ _ ((returns-in-Some-clause-insertion g c).index ∙ ap Some (sym (returns-in-Some-clause-index g c)))

pub returns-clause-insertion : goal.returns-clause-insertion
returns-clause-insertion g c = adds_key g.K.PartialEq.eq g.met.K.Eq.laws _ _ _ _ (grind (arith, put_by_index))

pub returns-clause-index : goal.returns-clause-index
returns-clause-index g c = grind arith

pub returns-clause-at : goal.returns-clause-at
returns-clause-at g c = match_at (g.K.PartialEq.eq c.args.key) _ _ ((returns-clause-insertion g c).index ∙ ap Some (sym (returns-clause-index g c)))
