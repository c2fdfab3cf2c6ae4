-- Calls that insert the items of an iterator: where they stop, what holds of each item, and when there is spare
-- capacity for all items.
use Rattle.std.specs.{Prelude.{ℕ, ◌+◌, ◌/◌, List, Option, Some}, Iterator.{Count, YieldsThen, size}}

module _ {U T : Type 0} (becomes : U → T → Type 0) where
  -- Example: three items were taken, and at the third `R` holds of the first two and it.
  -- What `iter` became yielded some items and then one more, and `R` holds of them.
  abbrev pub StopsAt : {A : Type 0} → (T → Option A → T → Type 0) → U → (List A → A → Type 0) → Type 0
  StopsAt {A} steps iter R = (it : T) × (items : List A) × (next : A) × (rest : T)
      × becomes iter it × YieldsThen steps it items (Some next) rest × R items next

  -- Example: of three items, each is below 5.
  -- `P` holds of each item that `iter` may yield.
  abbrev pub HoldsOfEach : {A : Type 0} → (T → Option A → T → Type 0) → U → (A → Type 0) → Type 0
  HoldsOfEach {A} steps iter P = (it : T) (items : List A) (next : A) (rest : T) → becomes iter it → YieldsThen steps it items (Some next) rest → P next

  -- The calls that use this require that `iter` ends. Of an endless iterator it would say no more than `HasRoom 0`, as
  -- the `size` of no bound is 0.
  -- Example: 2 are present, the iterator returns at most 3, and 5 fit.
  -- As many more items fit, by `HasRoom`, as `iter` may yield.
  abbrev pub HasRoomForAll : (T → Count) → U → (ℕ → Type 0) → Type 0
  HasRoomForAll left iter HasRoom = (it : T) → becomes iter it → HasRoom (size (left it))

  -- Example: 2 are present, the iterator returns at most 3, and 4 fit.
  -- Half as many more items fit, by `HasRoom`, as `iter` may yield, rounded up.
  abbrev pub HasRoomForHalf : (T → Count) → U → (ℕ → Type 0) → Type 0
  HasRoomForHalf left iter HasRoom = (it : T) → becomes iter it → HasRoom ((size (left it) + 1) / 2)
