use Rattle.std.proofs.{Common.{ap, refl, subst, sym, ◌∙◌, ◌≡◌}, lemmas.{Fn.answers_by, Result.on_ok_weaker}}
use Rattle.vecmap_base.{specs.FnCalls.ReturnsOnPair, proofs.PairsLemmas.Reordered.reordered}
use Rattle.vecmap_map.proofs.VecMap.sort_by_cached_key.Goals as goal

pub returns-clause-sorted : goal.returns-clause-sorted
returns-clause-sorted g c =
    on_ok_weaker c.sort_by_cached_key.result
    (λ h key by. h key (answers_by _ _ (λ q. q.0.now ≡ c.args.f) (λ q a r q' k i. (k.met.1 key (subst (ReturnsOnPair g.F.Fn key) (sym i) by), ap (λ b. b.now) k.met.0 ∙ i)) _ refl))
    c.sort_by_cached_key.ensures.sorted

pub returns-clause-stable : goal.returns-clause-stable
returns-clause-stable g c = λ key by.
    rw (← c.self.view_is)
    (c.sort_by_cached_key.ensures.stable key (answers_by _ _ (λ q. q.0.now ≡ c.args.f) (λ q a r q' k i. (k.met.1 key (subst (ReturnsOnPair g.F.Fn key) (sym i) by), ap (λ b. b.now) k.met.0 ∙ i)) _ refl))

pub returns-clause-reordered : goal.returns-clause-reordered
returns-clause-reordered g c = rw (← c.self.view_is) (reordered _ _ c.sort_by_cached_key.ensures.permutation)
