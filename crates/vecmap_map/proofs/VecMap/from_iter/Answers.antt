use Rattle.std.proofs.{Common.{◌∙◌, ap}, iter.runs.Consumers.total_runs}
use Rattle.vecmap_base.{specs.{Lookups.MakesPairs, Pairs.puts}, proofs.PairsLemmas.ManyPairs.makes_pairs}
use Rattle.vecmap_map.proofs.VecMap.from_iter.Goals as goal

pub returns-clause-list : goal.returns-clause-list
returns-clause-list g c =
    let ran = c.in_ok-extend.ensures.ran in
    (ran.0, ran.1, ran.2, ran.4, ran.3 ∙ ap (λ l. puts g.K.PartialEq.eq l ran.1) c.new-map.ensures.list)

pub returns-clause-runs : goal.returns-clause-runs
returns-clause-runs g c =
    let made = returns-clause-list g c in
    (made.0, made.2, total_runs _ made.0 (Unit {0}) (λ pairs. MakesPairs g.K.PartialEq.eq pairs _) (made.1, (λ _. made.3), makes_pairs g.K.PartialEq.eq g.met.K.Eq.laws made.1 _ made.4) tt)
