use Rattle.std.{proofs.{Common.{arith, map, rules}, iter.runs.Consumers.total_runs, lemmas.{Grind.common_steps, Result.err_from_is_err_and}}, specs.Map.Iter.deref}
use Rattle.vecmap_set.{proofs.MemberLemmas.adds_items, specs.SetBulk.AddsItems}
use Rattle.vecmap_set.proofs.VecSet.extend_copied.Goals as goal

pub returns-in_err-insert-clause-extended : goal.returns-in_err-insert-clause-extended
returns-in_err-insert-clause-extended g c =
    let it = c.into_iter-item-iterator.result in
    record {
      capacity = grind (arith, common_steps);
      capacity_stays = λ room. let all = room it (search rules) in grind (arith, common_steps);
      err = rw (err_from_is_err_and c.from_residual.result c.from_residual.ensures.1).1 (it, c.loop-item.yielded, c.in-Some.item, c.next.new.self, search rules, search rules, search rules);
      distinct = search rules;
      indices = rw (err_from_is_err_and c.from_residual.result c.from_residual.ensures.1).1 tt;
    }

pub returns-clause-extended : goal.returns-clause-extended
returns-clause-extended g c = record {
  capacity = search rules;
  capacity_stays = search rules;
  err = search rules;
  distinct = search rules;
  indices = (adds_items g.T.PartialEq.eq g.met.T.Eq.laws c.args.self.now.elements (map deref c.loop-item.yielded) _ (search rules) c.loop-item.invariant.elements).indices;
}

pub returns-clause-runs : goal.returns-clause-runs
returns-clause-runs g c =
    let it = c.into_iter-item-iterator.result in
    let old = c.args.self.now.elements in
    (it, search rules, total_runs _ it (Unit {0}) (λ items. AddsItems g.T.PartialEq.eq old (map deref items) _) (c.loop-item.yielded, (λ _. search rules), adds_items g.T.PartialEq.eq g.met.T.Eq.laws old (map deref c.loop-item.yielded) _ (search rules) c.loop-item.invariant.elements) tt)
