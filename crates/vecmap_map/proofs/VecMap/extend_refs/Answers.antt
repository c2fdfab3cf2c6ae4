-- The idea: each round appends a clone to the list of clones that the invariant names, and the call stops in the round
-- in which memory runs out.
use Rattle.std.proofs.{Common.{◌∙◌, ap, arith, inr, map, rules, sym, true≢false}, iter.runs.Consumers.total_runs, lemmas.{Grind.common_steps, Map.Entries.entries_from_clone, Result.err_from_is_err_and}}
use Rattle.std.specs.Map.Iter.{deref_pair}
use Rattle.vecmap_base.specs.{Clones.{ClonesAreSame, IsPairClone}, Lookups.Joins, Pairs.{put, puts as pairs_put}}
use Rattle.vecmap_base.proofs.{CloneLemmas.lent_clone_taken, PairsLemmas.{ManyPairs.joins_of_puts, Puts.length_put_at_most}}
use Rattle.vecmap_map.proofs.VecMap.extend_refs.Goals as goal

pub loop-key-preserved : goal.loop-key-preserved
loop-key-preserved g c =
    let one = c.in_ok-put_clones.ensures.list in
    let puts = lent_clone_taken (IsPairClone g.K.Clone.is_clone g.V.Clone.is_clone) (λ done r. put g.K.PartialEq.eq done r.0 r.1) deref_pair
    c.args.self.now.entries c.loop-key.yielded c.loop-key.self.entries c.put_clones.new.self.entries (c.in-Some.key, c.in-Some.value)
    (one.0, one.1) c.loop-key.invariant.puts (one.2, one.3) one.4 in
    grind (arith, common_steps, puts, length_put_at_most)

pub returns-in_err-put_clones-clause-extended : goal.returns-in_err-put_clones-clause-extended
returns-in_err-put_clones-clause-extended g c =
    let failed = err_from_is_err_and c.from_residual-in_err-put_clones.result c.from_residual-in_err-put_clones.ensures.1 in
    let it = c.into_iter-key-iterator.result in
    record {
      capacity = grind (arith, common_steps);
      distinct = rw c.in_err-put_clones.ensures.err (joins_of_puts g.K.PartialEq.eq g.met.K.Eq.laws c.args.self.now.entries c.loop-key.invariant.puts.0 _ c.loop-key.invariant.puts.2).distinct;
      capacity_stays = λ room. let all = room it (search rules) in grind (arith, common_steps);
      err = rw failed.1 (inr (it, c.loop-key.yielded, (c.in-Some.key, c.in-Some.value), c.next.new.self, search rules, search rules, search rules));
      late_err = λ some room. rw failed.1 (it, c.loop-key.yielded, (c.in-Some.key, c.in-Some.value), c.next.new.self, search rules, search rules, search rules);
    }

pub returns-in_err-put_clones-clause-succeeds : goal.returns-in_err-put_clones-clause-succeeds
returns-in_err-put_clones-clause-succeeds g c = λ room clones.
    let can = clones c.into_iter-key-iterator.result c.loop-key.yielded (c.in-Some.key, c.in-Some.value) c.next.new.self (search rules) (search rules) in
    let all = room c.into_iter-key-iterator.result (search rules) in
    absurd (true≢false (sym (c.in_err-put_clones.ensures.succeeds (grind (arith, common_steps)) can.0 can.1)))

pub returns-clause-extended : goal.returns-clause-extended
returns-clause-extended g c =
    let distinct = (joins_of_puts g.K.PartialEq.eq g.met.K.Eq.laws c.args.self.now.entries c.loop-key.invariant.puts.0 _ c.loop-key.invariant.puts.2).distinct in
    search (rules, distinct)

pub returns-clause-runs : goal.returns-clause-runs
returns-clause-runs g c =
    let it = c.into_iter-key-iterator.result in
    let old = c.args.self.now.entries in
    let puts = c.loop-key.invariant.puts in (
      it,
      search rules,
      total_runs _ it (Unit {0}) (λ items. ClonesAreSame g.K.Clone.is_clone → ClonesAreSame g.V.Clone.is_clone → Joins g.K.PartialEq.eq old (map deref_pair items) _)
          (c.loop-key.yielded, (λ _. search rules), λ keys values. joins_of_puts g.K.PartialEq.eq g.met.K.Eq.laws old (map deref_pair c.loop-key.yielded) _ (puts.2 ∙ ap (pairs_put g.K.PartialEq.eq old) (entries_from_clone g.K.Clone.is_clone g.V.Clone.is_clone keys values _ puts.0 puts.1))) tt,
    )
