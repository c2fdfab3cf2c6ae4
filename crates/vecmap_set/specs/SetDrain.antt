-- What contracts see of the drain of a set.
use Rattle.std.specs.{Prelude.{◌≡◌, ℕ, List, Option, drop, take}, Borrow.GName, Vec.Iter.reverse_if}
use Rattle.vecmap_base.specs.Drains.{DrainsFirst, DrainsLast}
use Rattle.vecmap_set.specs.declared.drain.Drain.{Drain}

module _ {T : Type 0} where
  -- Example: of `1..4` of `[0,1,2,3,4]`, after one `next`: `[2,3]`.
  -- The remaining elements of the drain.
  abbrev pub drain_rest : Drain T → List T
  drain_rest d = reverse_if d.reversed (drop d.keep d.set.now.elements)

  -- The elements that the set has once the drain is dropped.
  abbrev pub drain_kept : Drain T → List T
  drain_kept d = take d.keep d.set.now.elements

  -- The capacity that the set has once the drain is dropped.
  abbrev pub drain_capacity : Drain T → ℕ
  drain_capacity d = d.set.now.capacity

  -- The ghost name of the reference to the set.
  abbrev pub drain_lender : Drain T → GName
  drain_lender d = d.set.ghost_name

  -- Example: of `1..4` of `[0,1,2,3,4]`: `[0,4]` is left, also after `next`.
  -- Both drains borrow the same set, and leave it the same elements and the same capacity.
  abbrev pub DrainKeeps : Drain T → Drain T → Type 0
  DrainKeeps old new = (drain_lender new ≡ drain_lender old) × (drain_kept new ≡ drain_kept old) × (drain_capacity new ≡ drain_capacity old)

  -- A call of `next`.
  abbrev pub DrainNext : Drain T → Option T → Drain T → Type 0
  DrainNext = DrainsFirst drain_rest DrainKeeps

  -- A call of `next_back`.
  abbrev pub DrainNextBack : Drain T → Option T → Drain T → Type 0
  DrainNextBack = DrainsLast drain_rest DrainKeeps
