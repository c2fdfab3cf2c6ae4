use Rattle.std.proofs.Common.{◌≡◌, ◌≤◌, [], List, length, take}
use Rattle.vecmap_base.specs.{Clones.AreClones, Clones.IsPairClone, Pairs.puts}
use Rattle.vecmap_map.proofs.VecMap.from_slice.Given as goal

abbrev pub invariant-loop-pair : goal.invariant-loop-pair
invariant-loop-pair g l = record {
  puts : (clones : List (g.row.K.Denot × g.row.V.Denot)) × AreClones (IsPairClone g.K.Clone.is_clone g.V.Clone.is_clone) (take l.pair-index l.pairs) clones × (l.map.entries ≡ puts g.K.PartialEq.eq [] clones);
  room : length l.pairs ≤ l.map.capacity;
}
