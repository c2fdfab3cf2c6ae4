use Rattle.std.{proofs.Common.{◌≡◌, ◌+◌, ◌≤◌, take, drop, [], length}, specs.{List.Sorted.IsPermutation, Map.{keys_of, values_of}}}
use Rattle.vecmap_base.specs.{Comparisons.comparisons, Pairs.puts}
use Rattle.vecmap_base.proofs.duplicates.gather_pairs.Given as goal

abbrev pub invariant-loop-i : goal.invariant-loop-i
invariant-loop-i g l = record {
  bound : l.kept ≤ l.i;
  count : l.kept ≡ length (puts g.K.PartialEq.eq [] (take l.i l.initial.pairs));
  front : take l.kept l.pairs ≡ puts g.K.PartialEq.eq [] (take l.i l.initial.pairs);
  rest : drop l.i l.pairs ≡ drop l.i l.initial.pairs;
  keys : IsPermutation (keys_of l.initial.pairs) (keys_of l.pairs);
  values : IsPermutation (values_of l.initial.pairs) (values_of l.pairs);
  counted : l.steps ≡ l.initial.steps + comparisons g.K.PartialEq.eq (keys_of (take l.i l.initial.pairs));
}
