use Rattle.std.proofs.Common.{refl}
use Rattle.vecmap_map.proofs.EntryLemmas.{leaves_same, occupied_written}
use Rattle.vecmap_map.proofs.entry.occupied.OccupiedEntry.get_mut.Goals as goal

pub returns : goal.returns
returns g c =
    let o = c.args.self.now in
    ((refl, λ v. occupied_written o v _), record { writes_back = tt; value = c.value_mut.ensures.value; later = leaves_same o })
