use Rattle.std.proofs.{Common.rules, lemmas.List.Sorted.ranks_by}
use Rattle.vecmap_base.proofs.PairsLemmas.Searched.{keys_sorted}
use Rattle.vecmap_map.proofs.VecMap.sort_unstable_keys.Goals as goal

pub returns-clause-sorted : goal.returns-clause-sorted
returns-clause-sorted g c = c.sort_unstable_by.ensures.sorted _ (ranks_by g.met.K.Ord.total (λ p. p.0)) (λ a b r k. search rules)

pub returns-clause-keys_sorted : goal.returns-clause-keys_sorted
returns-clause-keys_sorted g c = keys_sorted g.K.Ord.cmp _ (returns-clause-sorted g c)
