-- The run that was collected took all items of the vector, and its values are those of the items, place by place.
use Rattle.std.proofs.{Common.{◌≡◌, ◌<◌, Ok, length, rules}, lemmas.{Option.slice_get-get_or, Result.IfOk-weaker}}
use Rattle.vecmap_callers.proofs.registry.all_pairs.Goals as goal

pub returns : goal.returns
returns c =
    IfOk-weaker c.try_collect.result _ _ (λ made run.
    let got = run.3 c.collecting_one_more_is_extending.ensures in
    let items = c.into_iter.ensures.runs run.0 run.0.seen in
    let count : length got.0 ≡ length c.args.pairs.items = search (rules, got.2, items, run.1, run.2) in (
      got.0,
      got.1.entries,
      count,
      λ k d within.
          let inside : k < run.0.len = search (rules, got.2, count, within) in
          search (rules, slice_get-get_or, got.3 k d inside, items.2 k (Ok d) inside, run.1),
    )) c.try_collect.ensures.runs
