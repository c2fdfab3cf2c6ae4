use Rattle.std.specs.List.{SwappedAt}
use Rattle.std.proofs.Common.{◌≡◌, ◌++◌, ◌<◌, ap, arith, length, set, subst, swap, sym, take_at, ◌∙◌}
use Rattle.std.proofs.lemmas.List.{length-append, length-set}
use Rattle.vecmap_base.proofs.MoveLemmas.{joined_swap, swapped_at}
use Rattle.vecmap_base.proofs.retain.swap_apart.Goals as goal

pub returns-clause-swapped : goal.returns-clause-swapped
returns-clause-swapped g c =
    let halves = c.split_at_mut-front.ensures in
    let items = c.args.items.now in
    let low = c.args.low in
    let front = c.split_at_mut-front.result.0.now in
    let back = c.split_at_mut-front.result.1.now in
    let x = c.exchange.new.b in
    let y = c.exchange.new.a in
    let joined : front ++ back ≡ items.items = sym halves.value ∙ c.as_mut_slice.ensures.value in
    let more : 0 < length back = omega (arith, halves.back_len, c.as_mut_slice.ensures.len, c.requires.within, items.ok) in
    let long : length (set front low y ++ set back 0 x) ≡ items.len = length-append (set front low y) (set back 0 x) ∙ omega (arith, length-set front low y, length-set back 0 x, halves.front_len, halves.back_len, c.as_mut_slice.ensures.len, items.ok) in
    subst (λ l. SwappedAt items.items l low c.args.high)
    (sym (take_at (set front low y ++ set back 0 x) _ _ long ∙ joined_swap front back low c.args.high x y c.index-front-low.result c.index-back-0.result halves.front_len c.requires.order more c.exchange.ensures.first c.exchange.ensures.second ∙ ap (λ l. swap l low c.args.high) joined))
    (swapped_at items.items low c.args.high (omega (arith, c.requires.order, c.requires.within)) c.requires.within)
