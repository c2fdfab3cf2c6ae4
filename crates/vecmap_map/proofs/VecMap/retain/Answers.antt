use Rattle.std.proofs.Common.{◌≡◌, Some, subst, sym}
use Rattle.vecmap_base.{specs.{FnMutCalls.CallsAtPair, Pairs.{HasDistinctKeys, lookup_by}}, proofs.PairsLemmas.Retained.{value_gone, value_stays}}
use Rattle.vecmap_map.proofs.VecMap.retain.Goals as goal

pub returns-clause-stays : goal.returns-clause-stays
returns-clause-stays g c test v found told =
    let kept = c.retain_pairs.ensures.selection.retained in
    value_stays (CallsAtPair g.F.FnMut) (λ f p b q s call. call.1) test v c.args.f kept.0 _ _ told kept.1 (subst (λ m. lookup_by test m.entries ≡ Some v) (sym c.self.view_is) found)

pub returns-clause-gone : goal.returns-clause-gone
returns-clause-gone g c test v found told eq d respects =
    let kept = c.retain_pairs.ensures.selection.retained in
    let distinct = subst (λ m. HasDistinctKeys eq m.entries) (sym c.self.view_is) d in
    value_gone (CallsAtPair g.F.FnMut) (λ f p b q s call. call.1) test eq respects v c.args.f kept.0 _ _ distinct told kept.1 (subst (λ m. lookup_by test m.entries ≡ Some v) (sym c.self.view_is) found)
