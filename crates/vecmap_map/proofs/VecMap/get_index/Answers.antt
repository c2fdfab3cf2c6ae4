use Rattle.std.proofs.{Common.{Some, ap, slice_get, sym, ◌∙◌, ◌≡◌}, lemmas.Option.slice_get-get_or}
use Rattle.vecmap_base.proofs.PairsLemmas.AtIndices.{found_at}
use Rattle.vecmap_map.proofs.VecMap.get_index.Goals as goal

pub returns-clause-at : goal.returns-clause-at
returns-clause-at g c =
    let pair = c.in_ok-pair.pair.now in
    let read = c.in_ok-pair.ensures.lookup in
    let at : slice_get c.args.self.now.entries c.args.index ≡ Some pair =
    rw (← c.self.view_is, ← c.deref.ensures.value) (slice_get-get_or c.deref.result.now c.args.index pair read.3.0 ∙ ap Some (sym read.1)) in
    found_at c.args.self.now.entries c.args.index pair.0 pair.1 at
