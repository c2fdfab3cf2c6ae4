use Rattle.std.{proofs.Common.{◌<◌, length, swap, sym, ap, ◌∙◌, arith}, specs.Map.{keys_of, values_of}}
use Rattle.vecmap_base.proofs.DuplicatesLemmas.Gather.{keys_of_swapped, values_of_swapped}
use Rattle.vecmap_base.proofs.duplicates.swap_values.Goals as goal

pub returns-clause-keys : goal.returns-clause-keys
returns-clause-keys g c =
    let e = c.split_at_mut-front.ensures in
    keys_of_swapped c.split_at_mut-front.result.0.now c.split_at_mut-front.result.1.now c.args.i c.index-front-i.result c.index-back-0.result c.swap.new.x c.swap.new.y ∙ ap keys_of (sym e.value)

pub returns-clause-values : goal.returns-clause-values
returns-clause-values g c =
    let e = c.split_at_mut-front.ensures in
    let front = c.split_at_mut-front.result.0.now in
    let back = c.split_at_mut-front.result.1.now in
    let some : 0 < length back = omega (arith, e.back_len, c.requires.within) in
    values_of_swapped front back c.args.i c.index-front-i.result c.index-back-0.result c.swap.new.x c.swap.new.y c.args.j e.front_len c.requires.before some c.swap.ensures.x_after c.swap.ensures.y_after
    ∙ ap (λ l. swap (values_of l) c.args.i c.args.j) (sym e.value)
