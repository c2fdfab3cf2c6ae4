use Rattle.std.proofs.{Common.{rules}, iter.runs.Consumers.total_runs}
use Rattle.vecmap_set.specs.SetBulk.{AddsItems}
use Rattle.vecmap_set.proofs.MemberLemmas.{adds_items}
use Rattle.vecmap_set.proofs.VecSet.extend.Goals as goal

pub returns-clause-ran : goal.returns-clause-ran
returns-clause-ran g c = search rules

pub returns-clause-extended : goal.returns-clause-extended
returns-clause-extended g c =
    let ran = returns-clause-ran g c in
    record {
      capacity = search rules;
      capacity_stays = search rules;
      err = search rules;
      distinct = search rules;
      indices = (adds_items g.T.PartialEq.eq g.met.T.Eq.laws c.args.self.now.elements ran.1 _ (search rules) ran.3).indices;
    }

pub returns-clause-runs : goal.returns-clause-runs
returns-clause-runs g c =
    let ran = returns-clause-ran g c in
    let old = c.args.self.now.elements in
    (ran.0, ran.2, total_runs _ ran.0 (Unit {0}) (λ items. AddsItems g.T.PartialEq.eq old items _) (ran.1, (λ _. ran.4), adds_items g.T.PartialEq.eq g.met.T.Eq.laws old ran.1 _ (search rules) ran.3) tt)
