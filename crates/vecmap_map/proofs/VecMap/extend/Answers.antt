-- The call stops at the insertion that runs out of memory.
use Rattle.std.proofs.{Common.{arith, inr, rules}, iter.runs.Consumers.total_runs, lemmas.{Grind.common_steps, Result.err_from_is_err_and}}
use Rattle.vecmap_base.{specs.Lookups.Joins, proofs.PairsLemmas.{ManyPairs.joins_of_puts}}
use Rattle.vecmap_map.proofs.VecMap.extend.Goals as goal

pub returns-clause-ran : goal.returns-clause-ran
returns-clause-ran g c = search rules

pub returns-in_err-insert-clause-ran : goal.returns-in_err-insert-clause-ran
returns-in_err-insert-clause-ran g c = search rules

pub returns-in_err-insert-clause-extended : goal.returns-in_err-insert-clause-extended
returns-in_err-insert-clause-extended g c =
    let failed = err_from_is_err_and c.from_residual-in_err-insert.result c.from_residual-in_err-insert.ensures.1 in
    let it = c.into_iter-key-iterator.result in
    record {
      capacity = grind (arith, common_steps);
      distinct = let ran = returns-in_err-insert-clause-ran g c in (joins_of_puts g.K.PartialEq.eq g.met.K.Eq.laws c.args.self.now.entries ran.1 _ ran.3).distinct;
      capacity_stays = λ room. let all = room it (search rules) in grind (arith, common_steps);
      err = rw failed.1 (inr (it, c.loop-key.yielded, (c.in-Some.key, c.in-Some.value), c.next.new.self, search rules, search rules, search rules));
      late_err = λ some room. rw failed.1 (it, c.loop-key.yielded, (c.in-Some.key, c.in-Some.value), c.next.new.self, search rules, search rules, search rules);
    }

pub returns-clause-extended : goal.returns-clause-extended
returns-clause-extended g c =
    let ran = returns-clause-ran g c in
    let distinct = (joins_of_puts g.K.PartialEq.eq g.met.K.Eq.laws c.args.self.now.entries ran.1 _ ran.3).distinct in
    search (rules, distinct)

pub returns-clause-runs : goal.returns-clause-runs
returns-clause-runs g c =
    let ran = returns-clause-ran g c in
    let old = c.args.self.now.entries in
    (ran.0, ran.2, total_runs _ ran.0 (Unit {0}) (λ pairs. Joins g.K.PartialEq.eq old pairs _) (ran.1, (λ _. ran.4), joins_of_puts g.K.PartialEq.eq g.met.K.Eq.laws old ran.1 _ ran.3) tt)
