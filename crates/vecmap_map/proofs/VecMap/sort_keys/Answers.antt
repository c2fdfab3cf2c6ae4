use Rattle.std.proofs.{Common.rules, lemmas.{List.Sorted.ranks_by, Result.on_ok_weaker}}
use Rattle.vecmap_base.proofs.PairsLemmas.Searched.{keys_sorted}
use Rattle.vecmap_map.proofs.VecMap.sort_keys.Goals as goal

pub returns-clause-sorted : goal.returns-clause-sorted
returns-clause-sorted g c = on_ok_weaker c.sort_by.result (λ h. h _ (ranks_by g.met.K.Ord.total (λ p. p.0)) (λ a b r k. search rules)) c.sort_by.ensures.sorted

pub returns-clause-keys_sorted : goal.returns-clause-keys_sorted
returns-clause-keys_sorted g c = on_ok_weaker c.sort_by.result (keys_sorted g.K.Ord.cmp _) (returns-clause-sorted g c)
