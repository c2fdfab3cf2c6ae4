-- The idea: each round extends the run by one step, and after the last round the run has all commands.
use Rattle.std.proofs.{Common.{◌≡◌, [], arith, append_assoc, ap, ◌∙◌, ◌++◌}, lemmas.{Grind.common_steps, List.append-nil}}
use Rattle.std.specs.Vec.Iter.{into_iter_items}
use Rattle.vecmap.proofs.RunLemmas.{run_set_push}
use Rattle.vecmap.proofs.set_run.run_set.Goals as goal

pub loop-command-preserved : goal.loop-command-preserved
loop-command-preserved g c =
    let next = c.in-Some.ensures.steps in
    record {
      run = rw c.push_reserved.ensures.items (run_set_push g.T.PartialEq.eq g.T.Clone _ _ _ _ _ _ _ c.loop-command.invariant.run c.step.ensures);
      rest = rw append_assoc (c.loop-command.invariant.rest ∙ ap (λ rest. c.loop-command.yielded ++ rest) next.0);
      room = omega (arith, c.push_reserved.ensures.len, c.push_reserved.ensures.capacity, next.1);
    }

pub returns-clause-run : goal.returns-clause-run
returns-clause-run g c =
    let rest : into_iter_items c.loop-command.command-iterator ≡ [] = grind (arith, common_steps) in
    let all : c.args.commands.items ≡ c.loop-command.yielded = c.loop-command.invariant.rest ∙ ap (λ rest. c.loop-command.yielded ++ rest) rest ∙ append-nil c.loop-command.yielded in
    rw all c.loop-command.invariant.run
