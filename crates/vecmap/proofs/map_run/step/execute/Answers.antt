use Rattle.std.proofs.Common.{◌∙◌}
use Rattle.vecmap_base.proofs.PairsLemmas.Puts.{put_stored}
use Rattle.vecmap.proofs.map_run.step.execute.Goals as goal

pub returns-in-Ok-put_if_new : goal.returns-in-Ok-put_if_new
returns-in-Ok-put_if_new g c =
    let stored = put_stored g.K.PartialEq.eq c.args.map.now.entries c.in-OrInsert.key c.in-OrInsert.value in
    let ok = c.in-Ok-put_if_new.ensures in
    rw c.in-OrInsert.is ((ok.index, ok.returned, ok.list ∙ stored), c.put_if_new.ensures.capacity)
