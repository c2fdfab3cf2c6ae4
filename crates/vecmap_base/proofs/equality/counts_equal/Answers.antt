use Rattle.std.proofs.{Common.{◌∙◌, rules, tests}, lemmas.Iterator.YieldsList-from_slice, lemmas.Iterator.Search.all_from_yields_List}
use Rattle.vecmap_base.specs.Equality.{same_pair}
use Rattle.vecmap_base.proofs.EqualityLemmas.Partial.{counts_agree_by_occurrence, occurs_alike, same_pair_partial}
use Rattle.vecmap_base.proofs.equality.counts_equal.Goals as goal

pub returns : goal.returns
returns g c =
    let key = g.K.PartialEq.eq in
    let value = g.V.PartialEq.eq in
    let k = g.met.K.Eq.laws in
    let v = g.met.V.PartialEq.laws in
    let a = c.args.a.now in
    let b = c.args.b.now in
    all_from_yields_List (occurs_alike (same_pair key value) (same_pair_partial key value k v) a b) _ _ _ c.all.ensures.ran (YieldsList-from_slice a cc) (λ x t q h. search (rules, tests))
    ∙ counts_agree_by_occurrence key value k v a b
