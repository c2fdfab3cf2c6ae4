use Rattle.std.proofs.lemmas.Map.Entries.{entries_from_clone}
use Rattle.vecmap_base.proofs.CloneLemmas.{lookup_by_cloned}
use Rattle.vecmap_map.proofs.VecMap.clone.Goals as goal

pub returns : goal.returns
returns g c =
    let keys = g.K.Clone.is_clone in
    let values = g.V.Clone.is_clone in
    let clones = c.in_ok-to_vec.ensures in
    record {
      copy = record {
        entries = clones;
        same = λ same_keys same_values. entries_from_clone keys values same_keys same_values _ _ clones;
        lookups = λ same_values test eq o equal respects. lookup_by_cloned keys values same_values eq o equal test respects _ _ clones;
      };
    }
