-- What each line of `ListStep`, and of `CapacityStep`, says of sets of two or three elements. `(1, x)` and `(1, y)` are equal.
use Rattle.std.specs.Prelude.{◌≡◌, ◌<◌, ◌≤◌, ◌↔◌, ℕ, Bool, IsTrue, List, [], ◌∷◌, Option, Some, false, length, nat_eq, refl, true, ⊤}
use Rattle.std.specs.List.{IsDistinct}
use Rattle.std.specs.declared.clone.Clone as clone
use Rattle.vecmap.specs.SetRun.{AddsInRoom, CapacityStep, Effect, ListStep, MakesSet, RepliesItem, RepliesItems, Run, Step}
use Rattle.vecmap.specs.{declared.set_run.command.SetCommand.SetCommand, declared.set_run.reply.SetReply.SetReply}
use Rattle.vecmap.specs.declared.set_run.command.SetCommand.TheVariants.{Contains, Equals, Exclusive, First, Get, GetIndex, IndexOf, Intersect, IsDisjoint, IsSubset, IsSuperset, Last, Len, Subtract, ToVec, Unite, Append, Clear, Insert, Pop, Remove, RemoveIndex, Replace, Reverse, SplitOff, SwapIndices, SwapRemove, SwapRemoveIndex, SwapTake, Take, Truncate}
use Rattle.vecmap.specs.declared.set_run.reply.SetReply.TheVariants.{Done, Item, Items, Made, NoMemory, Number, OutOfRange, Place, Truth}
use Rattle.vecmap_base.specs.Clones.{AreClones}
use Rattle.vecmap_set.specs.SetContents.{Contents, KeepsRoom}

module _ {T : Type 0} (x y : T) (clones : clone.Ghosts (ℕ × T)) (reply : SetReply (ℕ × T)) (m : List (ℕ × T)) (new : Contents (ℕ × T)) (i j index : ℕ) (found : Option ℕ) (truth : Bool) (item : Option (ℕ × T)) (made : Contents (ℕ × T)) where
  abbrev eq : ℕ × T → ℕ × T → Bool
  eq p q = nat_eq p.0 q.0

  abbrev a : ℕ × T
  a = (1, x)

  abbrev b : ℕ × T
  b = (2, x)

  abbrev c : ℕ × T
  c = (3, x)

  abbrev l : List (ℕ × T)
  l = a ∷ b ∷ []

  abbrev full : Contents (ℕ × T)
  full = record { elements = l; capacity = 2 }

  -- The same set as `l`, in another order.
  abbrev same : Contents (ℕ × T)
  same = record { elements = (2, y) ∷ (1, y) ∷ []; capacity = 2 }

  abbrev other : Contents (ℕ × T)
  other = record { elements = (1, y) ∷ c ∷ []; capacity = 2 }

  abbrev larger : Contents (ℕ × T)
  larger = record { elements = (3, y) ∷ (2, y) ∷ (1, y) ∷ []; capacity = 3 }

  abbrev step : SetCommand (ℕ × T) → SetReply (ℕ × T) → Type 0
  step command reply = ListStep eq clones l command reply m

  -- With a third element, which shows what moves.
  abbrev step3 : SetCommand (ℕ × T) → SetReply (ℕ × T) → Type 0
  step3 command reply = ListStep eq clones (a ∷ b ∷ c ∷ []) command reply m

  abbrev in_room : ℕ × T → SetReply (ℕ × T) → Type 0
  in_room x reply = AddsInRoom eq clones x full reply new

  abbrev capacity : SetCommand (ℕ × T) → SetReply (ℕ × T) → Type 0
  capacity command reply = CapacityStep eq clones full command reply new

  insertions :
      (step (Insert (3, x)) (Truth truth) ≡ ((truth ≡ true) × (m ≡ a ∷ b ∷ c ∷ [])))
      × (step (Insert (2, y)) NoMemory ≡ ((true ≡ false) × (m ≡ l)))
      × (step (Replace (1, y)) (Item item) ≡ ((item ≡ Some a) × (m ≡ (1, y) ∷ b ∷ [])))
      × (step (Replace (2, y)) NoMemory ≡ ((true ≡ false) × (m ≡ l)))
  insertions = (refl, refl, refl, refl)

  lookups :
      (step (Get (2, y)) reply ≡ (RepliesItem clones (Some b) reply × (m ≡ l)))
      × (step (GetIndex 1) reply ≡ (RepliesItem clones (Some b) reply × (m ≡ l)))
      × (step (IndexOf (2, y)) (Place found) ≡ ((found ≡ Some 1) × (m ≡ l)))
      × (step (Contains (2, y)) (Truth truth) ≡ ((truth ≡ true) × (m ≡ l)))
      × (step First reply ≡ (RepliesItem clones (Some a) reply × (m ≡ l)))
      × (step Last reply ≡ (RepliesItem clones (Some b) reply × (m ≡ l)))
      × (step Len (Number index) ≡ ((index ≡ 2) × (m ≡ l)))
      × (step ToVec reply ≡ (RepliesItems clones l reply × (m ≡ l)))
      × (step (Equals same) (Truth truth) ≡ ((truth ≡ true) × (m ≡ l)))
      × (step (IsSubset larger) (Truth truth) ≡ ((truth ≡ true) × (m ≡ l)))
      × (step3 (IsSuperset same) (Truth truth) ≡ ((truth ≡ true) × (m ≡ a ∷ b ∷ c ∷ [])))
      × (step3 (IsDisjoint same) (Truth truth) ≡ ((IsTrue truth ↔ (l ≡ [])) × (m ≡ a ∷ b ∷ c ∷ [])))
  lookups = (refl, refl, refl, refl, refl, refl, refl, refl, refl, refl, refl, refl)

  removals :
      (step3 (Remove (1, y)) (Truth truth) ≡ ((truth ≡ true) × (m ≡ b ∷ c ∷ [])))
      × (step3 (Take (1, y)) (Item item) ≡ ((item ≡ Some a) × (m ≡ b ∷ c ∷ [])))
      × (step3 (SwapRemove (1, y)) (Truth truth) ≡ ((truth ≡ true) × (m ≡ c ∷ b ∷ [])))
      × (step3 (SwapTake (1, y)) (Item item) ≡ ((item ≡ Some a) × (m ≡ c ∷ b ∷ [])))
      × (step3 (RemoveIndex 0) (Item item) ≡ ((0 < 3) × (item ≡ Some a) × (m ≡ b ∷ c ∷ [])))
      × (step (RemoveIndex i) OutOfRange ≡ ((2 ≤ i) × (m ≡ l)))
      × (step3 (SwapRemoveIndex 0) (Item item) ≡ ((0 < 3) × (item ≡ Some a) × (m ≡ c ∷ b ∷ [])))
      × (step (SwapRemoveIndex i) OutOfRange ≡ ((2 ≤ i) × (m ≡ l)))
      × (step Pop (Item item) ≡ ((item ≡ Some b) × (m ≡ a ∷ [])))
      × (step Pop Done ≡ ⊥)
  removals = (refl, refl, refl, refl, refl, refl, refl, refl, refl, refl)

  lists :
      (step3 (SwapIndices 0 2) Done ≡ ((0 < 3) × (2 < 3) × (m ≡ c ∷ b ∷ a ∷ [])))
      × (step (SwapIndices i j) OutOfRange ≡ (¬ ((i < 2) × (j < 2)) × (m ≡ l)))
      × (step3 (Truncate 2) Done ≡ (m ≡ l))
      × (step Clear Done ≡ (m ≡ []))
      × (step Reverse Done ≡ (m ≡ b ∷ a ∷ []))
      × (step (Append other) Done ≡ (m ≡ a ∷ b ∷ c ∷ []))
      × (step (Append other) NoMemory ≡ ((0 < 2) × (m ≡ l)))
      × (step3 (SplitOff 1) (Made made) ≡ ((1 ≤ 3) × (made.elements ≡ b ∷ c ∷ []) × IsDistinct eq made.elements × (m ≡ a ∷ [])))
      × (step (SplitOff i) OutOfRange ≡ ((2 < i) × (m ≡ l)))
      × (step (SplitOff i) NoMemory ≡ ((i < 2) × (m ≡ l)))
  lists = (refl, refl, refl, refl, refl, refl, refl, refl, refl, refl)

  sets :
      (step (Intersect same) reply ≡ (MakesSet eq clones (a ∷ b ∷ []) reply × (m ≡ l)))
      × (step (Unite other) reply ≡ (MakesSet eq clones (a ∷ b ∷ c ∷ []) reply × (m ≡ l)))
      × (step (Exclusive other) reply ≡ (MakesSet eq clones (b ∷ c ∷ []) reply × (m ≡ l)))
      × (step (Subtract other) reply ≡ (MakesSet eq clones (b ∷ []) reply × (m ≡ l)))
  sets = (refl, refl, refl, refl)

  -- The commands that clone reply a clone, or `NoMemory` if the clone can fail.
  copies :
      (step (Get (2, y)) (Item (Some (2, y))) ≡ (clones.is_clone (2, x) (2, y) × (m ≡ l)))
      × (step (Get (2, y)) NoMemory ≡ (¬ (clones.is_infallible (2, x)) × (m ≡ l)))
      × (step (Get (2, y)) Done ≡ (⊥ × (m ≡ l)))
      × ((items : _) → step ToVec (Items items) ≡ (AreClones clones.is_clone l items.items × (m ≡ l)))
      × (step ToVec NoMemory ≡ (⊤ × (m ≡ l)))
      × (step ToVec Done ≡ (⊥ × (m ≡ l)))
      × (step (Subtract other) (Made made) ≡ ((AreClones clones.is_clone (b ∷ []) made.elements × IsDistinct eq made.elements) × (m ≡ l)))
      × (step (Subtract other) NoMemory ≡ (⊤ × (m ≡ l)))
      × (step (Subtract other) Done ≡ (⊥ × (m ≡ l)))
  copies = (refl, refl, refl, (λ items. refl), refl, refl, refl, refl, refl)

  -- The capacity.
  rooms :
      (in_room (2, y) (Truth truth) ≡ KeepsRoom eq full (2, y) new)
      × (in_room (2, y) NoMemory ≡ ((2 ≡ full.capacity) × (new.capacity ≡ 2)))
      × (capacity (Insert (2, y)) reply ≡ in_room (2, y) reply)
      × (capacity (Replace (2, y)) reply ≡ in_room (2, y) reply)
      × (capacity (Append other) Done ≡ ((2 ≤ new.capacity) × (4 ≤ 2 → new.capacity ≡ 2)))
      × (capacity (Append other) NoMemory ≡ (¬ (4 ≤ 2) × (new.capacity ≡ 2)))
      × (capacity (Get (2, y)) reply ≡ (new.capacity ≡ 2))
  rooms = (refl, refl, refl, refl, refl, refl, refl)

  -- Both together, and commands in order.
  runs :
      (Effect eq clones full Reverse Done new ≡ ((new.elements ≡ b ∷ a ∷ []) × (new.capacity ≡ 2)))
      × (Step eq clones full Clear Done new ≡ (((new.elements ≡ []) × (new.capacity ≡ 2)) × (length new.elements ≤ new.capacity)))
      × (Run eq clones full [] [] new ≡ (new ≡ full))
      × (Run eq clones full (Reverse ∷ []) (reply ∷ []) new ≡ ((next : Contents (ℕ × T)) × Step eq clones full Reverse reply next × (new ≡ next)))
      × (Run eq clones full (Reverse ∷ []) [] new ≡ ⊥)
      × (Run eq clones full [] (reply ∷ []) new ≡ ⊥)
  runs = (refl, refl, refl, refl, refl, refl)
