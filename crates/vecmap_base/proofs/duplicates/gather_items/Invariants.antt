use Rattle.std.{proofs.Common.{◌≡◌, ◌+◌, ◌≤◌, take, drop, [], length}, specs.List.Sorted.IsPermutation}
use Rattle.vecmap_base.specs.{Comparisons.comparisons, Items.adds}
use Rattle.vecmap_base.proofs.duplicates.gather_items.Given as goal

abbrev pub invariant-loop-i : goal.invariant-loop-i
invariant-loop-i g l = record {
  bound : l.kept ≤ l.i;
  count : l.kept ≡ length (adds g.T.PartialEq.eq [] (take l.i l.initial.items));
  front : take l.kept l.items ≡ adds g.T.PartialEq.eq [] (take l.i l.initial.items);
  rest : drop l.i l.items ≡ drop l.i l.initial.items;
  items : IsPermutation l.initial.items l.items;
  counted : l.steps ≡ l.initial.steps + comparisons g.T.PartialEq.eq (take l.i l.initial.items);
}
