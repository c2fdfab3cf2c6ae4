-- How a run of commands is extended by one more. By induction on the commands.
use Rattle.std.proofs.Common.{Bool, List, [], ◌∷◌, ◌++◌, refl}
use Rattle.std.specs.declared.clone.Clone as clone
use Rattle.vecmap.specs.MapRun as maps
use Rattle.vecmap.specs.{declared.map_run.command.MapCommand.MapCommand, declared.map_run.reply.MapReply.MapReply}
use Rattle.vecmap.specs.SetRun as sets
use Rattle.vecmap.specs.{declared.set_run.command.SetCommand.SetCommand, declared.set_run.reply.SetReply.SetReply}
use Rattle.vecmap_map.specs.Contents.{Contents}
use Rattle.vecmap_set.specs.SetContents as set

module _ {K V : Type 0} (eq : K → K → Bool) (eq_value : V → V → Bool) (keys : clone.Ghosts K) (values : clone.Ghosts V) where
  -- A run, and then one more step.
  pub run_push : (m : Contents K V) (commands : List (MapCommand K V)) (replies : List (MapReply K V)) (mid : Contents K V) (command : MapCommand K V) (reply : MapReply K V) (n : Contents K V) → maps.Run eq eq_value keys values m commands replies mid → maps.Step eq eq_value keys values mid command reply n → maps.Run eq eq_value keys values m (commands ++ command ∷ []) (replies ++ reply ∷ []) n
  run_push m [] [] mid command reply n run step = (n, rw (← run) step, refl)
  run_push m (c ∷ cs) (r ∷ rs) mid command reply n run step =
      (run.0, run.1, run_push run.0 cs rs mid command reply n run.2 step)
  run_push m [] (r ∷ rs) mid command reply n run step = absurd run
  run_push m (c ∷ cs) [] mid command reply n run step = absurd run

module _ {T : Type 0} (eq : T → T → Bool) (clones : clone.Ghosts T) where
  -- The same for a set.
  pub run_set_push : (s : set.Contents T) (commands : List (SetCommand T)) (replies : List (SetReply T)) (mid : set.Contents T) (command : SetCommand T) (reply : SetReply T) (t : set.Contents T) → sets.Run eq clones s commands replies mid → sets.Step eq clones mid command reply t → sets.Run eq clones s (commands ++ command ∷ []) (replies ++ reply ∷ []) t
  run_set_push s [] [] mid command reply t run step = (t, rw (← run) step, refl)
  run_set_push s (c ∷ cs) (r ∷ rs) mid command reply t run step =
      (run.0, run.1, run_set_push run.0 cs rs mid command reply t run.2 step)
  run_set_push s [] (r ∷ rs) mid command reply t run step = absurd run
  run_set_push s (c ∷ cs) [] mid command reply t run step = absurd run
