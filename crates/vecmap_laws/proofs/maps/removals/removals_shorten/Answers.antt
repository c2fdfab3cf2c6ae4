-- The idea: each clause is a lemma of `RemovalLemmas`, for a removal by index that leaves all other pairs.
use Rattle.std.proofs.Common.{◌-◌, ◌∙◌, ap, if◌then◌else◌, is_some, length, remove, sym}
use Rattle.vecmap_base.{specs.Items.swap_without, proofs.PairsLemmas.ByIndex.index_by_is}
use Rattle.vecmap_laws.proofs.{OneMore.{swap_without_by_is, without_by_is}, TakenOut.{length_by_index, length_by_test, remove_leaves, swap_leaves}}
use Rattle.vecmap_laws.proofs.maps.removals.removals_shorten.Goals as goal

pub returns-clause-shift : goal.returns-clause-shift
returns-clause-shift g c = λ l k. ap length (without_by_is (g.K.PartialEq.eq k) l) ∙ length_by_test remove remove_leaves (λ p. g.K.PartialEq.eq k p.0) l ∙ ap (λ found. if is_some found then length l - 1 else length l) (sym (index_by_is (g.K.PartialEq.eq k) l))

pub returns-clause-swap : goal.returns-clause-swap
returns-clause-swap g c = λ l k. ap length (swap_without_by_is (g.K.PartialEq.eq k) l) ∙ length_by_test swap_without swap_leaves (λ p. g.K.PartialEq.eq k p.0) l ∙ ap (λ found. if is_some found then length l - 1 else length l) (sym (index_by_is (g.K.PartialEq.eq k) l))

pub returns-clause-by_index : goal.returns-clause-by_index
returns-clause-by_index g c = λ l i k v. length_by_index remove remove_leaves l i (k, v)
