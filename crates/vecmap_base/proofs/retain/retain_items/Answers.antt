use Rattle.vecmap_base.{specs.FnMutCalls.CallsAtItem, proofs.ItemsLemmas.Members.any_filtered}
use Rattle.vecmap_base.proofs.retain.retain_items.Goals as goal

pub returns-clause-matches : goal.returns-clause-matches
returns-clause-matches g c query kept told =
    let calls = c.retain.ensures.retained in
    any_filtered (CallsAtItem g.F.FnMut) (λ f x b y s call. call.1) query kept c.args.f calls.0 _ _ told calls.1
