use Rattle.std.proofs.Common.{length}
use Rattle.vecmap_callers.proofs.trees.Tree.+insert.Given as goal

abbrev pub decreases-insert : goal.decreases-insert
decreases-insert l = length l.path.now
