use Rattle.std.proofs.Common.{Some, ap, nat_eq, rules, sym, ◌∙◌}
use Rattle.vecmap_laws.proofs.QueryLemmas.{written_back}
use Rattle.vecmap_callers.specs.{declared.trees.Tree.out-Tree, declared.trees.Tree.TheViews.the_lemmas}
use Rattle.vecmap_callers.proofs.trees.Tree.+insert.Goals as goal

pub returns-in_err-insert-clause-err : goal.returns-in_err-insert-clause-err
returns-in_err-insert-clause-err t c =
    let same = written_back (nat_eq c.in-Some.first.now) (out-Tree c.args.self.now).below c.insert.new.self (sym c.in-Some-get_mut.ensures.value ∙ ap Some (sym c.in_err-insert.ensures.err)) in
    rw same (search (rules, the_lemmas))
