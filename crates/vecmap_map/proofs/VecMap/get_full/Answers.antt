use Rattle.std.proofs.{Common.{arith, ap, slice_get, sym, Some, ◌∙◌, ◌≡◌}, lemmas.Option.same_Some}
use Rattle.vecmap_base.proofs.PairsLemmas.ByIndex.{pair_found, pair_read}
use Rattle.vecmap_map.proofs.VecMap.get_full.Goals as goal

pub returns-clause-item : goal.returns-clause-item
returns-clause-item g c = grind (arith, pair_found (g.Q.Equivalent.equivalent c.args.query) c.args.self.now.entries c.in_ok-index.index c.index-pair.result.now)

pub returns-clause-at : goal.returns-clause-at
returns-clause-at g c =
    let l = c.args.self.now.entries in
    let test = g.Q.Equivalent.equivalent c.args.query in
    let found = c.in_ok-index.ensures.at in
    let pair = c.index-pair.result.now in
    let here : slice_get l c.in_ok-index.index ≡ Some pair = grind (arith, pair_read test l c.in_ok-index.index pair) in
    let same = same_Some (found.0, found.1) pair (sym found.2 ∙ here) in
    (here, ap (λ p. test p.0) (sym same) ∙ found.3, found.4 ∙ ap (λ p. Some p.1) same)
