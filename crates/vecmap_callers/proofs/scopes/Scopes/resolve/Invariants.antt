use Rattle.std.proofs.Common.{◌≡◌, ◌≤◌, length, take}
use Rattle.vecmap_callers.specs.Scopes.{resolved}
use Rattle.vecmap_callers.proofs.scopes.Scopes.resolve.Given as goal

abbrev pub invariant-loop-index : goal.invariant-loop-index
invariant-loop-index g l = record {
  within : l.index ≤ length l.self-inside.scopes.items;
  value : resolved g.K.PartialEq.eq (take l.index l.self-inside.scopes.items) l.name ≡ resolved g.K.PartialEq.eq l.self-inside.scopes.items l.name;
}

abbrev pub decreases-loop-index : goal.decreases-loop-index
decreases-loop-index g l = l.index
