use Rattle.std.proofs.Common.{◌≡◌, ℕ, ◌+◌, ◌^◌, ◌<◌, ◌≤◌, Ordering, length}
use Rattle.vecmap_base.{specs.FnCalls.ReturnsAtIndex, proofs.SearchLemmas.Narrowed}
use Rattle.vecmap_base.proofs.search.search_by_index.Given as goal

abbrev pub invariant-loop-size : goal.invariant-loop-size
invariant-loop-size g l = record {
  power : (k : ℕ) × (l.size ≡ 2 ^ k);
  positive : 0 < l.size;
  within : l.base + l.size ≤ length l.items;
  narrowed : (ord : g.row.T.Denot → Ordering) → ReturnsAtIndex g.F.Fn ord l.f l.items → Narrowed ord l.items l.base l.size;
}

abbrev pub decreases-loop-size : goal.decreases-loop-size
decreases-loop-size g l = l.size

abbrev pub invariant-loop-size-2 : goal.invariant-loop-size-2
invariant-loop-size-2 g l = record {
  power : (k : ℕ) × (l.size ≡ 2 ^ k);
  positive : 0 < l.size;
  within : l.base + l.size ≤ length l.items;
  narrowed : (ord : g.row.T.Denot → Ordering) → ReturnsAtIndex g.F.Fn ord l.f l.items → Narrowed ord l.items l.base l.size;
}

abbrev pub decreases-loop-size-2 : goal.decreases-loop-size-2
decreases-loop-size-2 g l = l.size
