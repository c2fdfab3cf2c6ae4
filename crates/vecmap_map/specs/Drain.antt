-- What contracts see of the drain of a map.
use Rattle.std.specs.{Prelude.{◌≡◌, ℕ, List, Option, drop, take}, Borrow.GName, Vec.Iter.reverse_if}
use Rattle.vecmap_base.specs.Drains.{DrainsFirst, DrainsLast}
use Rattle.vecmap_map.specs.declared.drain.Drain.{Drain}

module _ {K V : Type 0} where
  -- Example: of `1..4` of `[0,1,2,3,4]`, after one `next`: `[2,3]`.
  -- The remaining pairs of the drain.
  abbrev pub drain_rest : Drain K V → List (K × V)
  drain_rest d = reverse_if d.reversed (drop d.keep d.map.now.entries)

  -- The pairs that the map has once the drain is dropped.
  abbrev pub drain_kept : Drain K V → List (K × V)
  drain_kept d = take d.keep d.map.now.entries

  -- The capacity that the map has once the drain is dropped.
  abbrev pub drain_capacity : Drain K V → ℕ
  drain_capacity d = d.map.now.capacity

  -- The ghost name of the reference to the map.
  abbrev pub drain_lender : Drain K V → GName
  drain_lender d = d.map.ghost_name

  -- Example: of `1..4` of `[0,1,2,3,4]`: `[0,4]` is left, also after `next`.
  -- Both drains borrow the same map, and leave it the same pairs and the same capacity.
  abbrev pub DrainKeeps : Drain K V → Drain K V → Type 0
  DrainKeeps old new = (drain_lender new ≡ drain_lender old) × (drain_kept new ≡ drain_kept old) × (drain_capacity new ≡ drain_capacity old)

  -- A call of `next`.
  abbrev pub DrainNext : Drain K V → Option (K × V) → Drain K V → Type 0
  DrainNext = DrainsFirst drain_rest DrainKeeps

  -- A call of `next_back`.
  abbrev pub DrainNextBack : Drain K V → Option (K × V) → Drain K V → Type 0
  DrainNextBack = DrainsLast drain_rest DrainKeeps
