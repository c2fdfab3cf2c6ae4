-- What the commands of `run_set` do to a set, in order. In `vecmap_tests`, `SetRunExamples.antt` has an example of each line of
-- `ListStep` and of `CapacityStep`.
use Rattle.std.specs.Prelude.{◌≡◌, ◌-◌, ◌<◌, ◌≤◌, ◌↔◌, Bool, Err, IsSomeAnd, IsTrue, List, Ok, Option, Result, [], ◌∷◌, drop, false, length, not, remove, reverse, slice_get, swap, take, ⊤}
use Rattle.std.specs.{List.IsDistinct, Set.is_member}
use Rattle.std.specs.declared.clone.Clone as clone
use Rattle.vecmap.specs.{declared.set_run.command.SetCommand.SetCommand, declared.set_run.reply.SetReply.SetReply}
use Rattle.vecmap.specs.declared.set_run.command.SetCommand.TheVariants.{Contains, Equals, Exclusive, First, Get, GetIndex, IndexOf, Intersect, IsDisjoint, IsSubset, IsSuperset, Last, Len, Subtract, ToVec, Unite, Append, Clear, Insert, Pop, Remove, RemoveIndex, Replace, Reverse, SplitOff, SwapIndices, SwapRemove, SwapRemoveIndex, SwapTake, Take, Truncate}
use Rattle.vecmap.specs.declared.set_run.reply.SetReply.TheVariants.{Done, Item, Items, Made, NoMemory, Number, OutOfRange, Place, Truth}
use Rattle.vecmap_base.specs.{Clones.{AreClones, IsCloneOf}, Equality.{has_same_items, is_within}}
use Rattle.vecmap_base.specs.Items.{add, put_item, adds, both, item_index, only, stored_item, swap_without, swap_without_item, without_item}
use Rattle.vecmap_set.specs.{Operators.{symmetric_difference_of, union_of}, SetContents.{Contents, HasRoom, IsFull, KeepsRoom}}

module _ {T : Type 0} where
  -- The reply is the set that was created, or `NoMemory`.
  abbrev pub Makes : {E : Type 0} → Result (Contents T) E → SetReply T → Type 0
  Makes (Ok set) reply = reply ≡ Made set
  Makes (Err e) reply = reply ≡ NoMemory

module _ {T : Type 0} (clones : clone.Ghosts T) where
  -- Example: of no element: `Item` none, and never `NoMemory`.
  -- The reply is a clone of the element, if there is one. It is `NoMemory` only if the clone can fail.
  abbrev pub RepliesItem : Option T → SetReply T → Type 0
  RepliesItem item (Item copy) = IsCloneOf clones.is_clone item copy
  RepliesItem item NoMemory = IsSomeAnd item (λ x. ¬ (clones.is_infallible x))
  RepliesItem item _ = ⊥

  -- The reply is clones of all elements, or `NoMemory`.
  abbrev pub RepliesItems : List T → SetReply T → Type 0
  RepliesItems l (Items copies) = AreClones clones.is_clone l copies.items
  RepliesItems l NoMemory = ⊤
  RepliesItems l _ = ⊥

module _ {T : Type 0} (eq : T → T → Bool) (clones : clone.Ghosts T) where
  -- Example: `Intersect [1,2]` on `[3,2,1]`: `Made [2,1]`.
  -- The reply is a set of clones of the list, or `NoMemory`.
  abbrev pub MakesSet : List T → SetReply T → Type 0
  MakesSet l (Made set) = AreClones clones.is_clone l set.elements × IsDistinct eq set.elements
  MakesSet l NoMemory = ⊤
  MakesSet l _ = ⊥

  -- A command that reads, is out of range or runs out of memory leaves the list. Any other reply is impossible.
  -- Example: `Replace 1y` on `[1x]`: `Item 1x`, and `[1y]`.
  -- One command with this reply turns the list l into the list m.
  abbrev pub ListStep : List T → SetCommand T → SetReply T → List T → Type 0
  ListStep l (Insert x) (Truth added) m = (added ≡ not (is_member eq l x)) × (m ≡ add eq l x)
  ListStep l (Insert x) NoMemory m = (is_member eq l x ≡ false) × (m ≡ l)
  ListStep l (Replace x) (Item old) m = (old ≡ stored_item eq l x) × (m ≡ put_item eq l x)
  ListStep l (Replace x) NoMemory m = (is_member eq l x ≡ false) × (m ≡ l)
  ListStep l (Get x) reply m = RepliesItem clones (stored_item eq l x) reply × (m ≡ l)
  ListStep l (GetIndex i) reply m = RepliesItem clones (slice_get l i) reply × (m ≡ l)
  ListStep l (IndexOf x) (Place index) m = (index ≡ item_index eq l x) × (m ≡ l)
  ListStep l (Contains x) (Truth there) m = (there ≡ is_member eq l x) × (m ≡ l)
  ListStep l First reply m = RepliesItem clones (slice_get l 0) reply × (m ≡ l)
  ListStep l Last reply m = RepliesItem clones (slice_get l (length l - 1)) reply × (m ≡ l)
  ListStep l Len (Number count) m = (count ≡ length l) × (m ≡ l)
  ListStep l (Remove x) (Truth found) m = (found ≡ is_member eq l x) × (m ≡ without_item eq l x)
  ListStep l (Take x) (Item old) m = (old ≡ stored_item eq l x) × (m ≡ without_item eq l x)
  ListStep l (SwapRemove x) (Truth found) m = (found ≡ is_member eq l x) × (m ≡ swap_without_item eq l x)
  ListStep l (SwapTake x) (Item old) m = (old ≡ stored_item eq l x) × (m ≡ swap_without_item eq l x)
  ListStep l (RemoveIndex i) (Item old) m = (i < length l) × (old ≡ slice_get l i) × (m ≡ remove l i)
  ListStep l (RemoveIndex i) OutOfRange m = (length l ≤ i) × (m ≡ l)
  ListStep l (SwapRemoveIndex i) (Item old) m = (i < length l) × (old ≡ slice_get l i) × (m ≡ swap_without l i)
  ListStep l (SwapRemoveIndex i) OutOfRange m = (length l ≤ i) × (m ≡ l)
  ListStep l Pop (Item old) m = (old ≡ slice_get l (length l - 1)) × (m ≡ take (length l - 1) l)
  ListStep l (SwapIndices i j) Done m = (i < length l) × (j < length l) × (m ≡ swap l i j)
  ListStep l (SwapIndices i j) OutOfRange m = ¬ ((i < length l) × (j < length l)) × (m ≡ l)
  ListStep l (Truncate len) Done m = m ≡ take len l
  ListStep l Clear Done m = m ≡ []
  ListStep l Reverse Done m = m ≡ reverse l
  ListStep l (Append other) Done m = m ≡ adds eq l other.elements
  ListStep l (Append other) NoMemory m = (0 < length other.elements) × (m ≡ l)
  ListStep l (SplitOff i) (Made rest) m = (i ≤ length l) × (rest.elements ≡ drop i l) × IsDistinct eq rest.elements × (m ≡ take i l)
  ListStep l (SplitOff i) OutOfRange m = (length l < i) × (m ≡ l)
  ListStep l (SplitOff i) NoMemory m = (i < length l) × (m ≡ l)
  ListStep l ToVec reply m = RepliesItems clones l reply × (m ≡ l)
  ListStep l (Equals other) (Truth same) m = (same ≡ has_same_items eq l other.elements) × (m ≡ l)
  ListStep l (IsSubset other) (Truth within) m = (within ≡ is_within eq l other.elements) × (m ≡ l)
  ListStep l (IsSuperset other) (Truth within) m = (within ≡ is_within eq other.elements l) × (m ≡ l)
  ListStep l (IsDisjoint other) (Truth apart) m = (IsTrue apart ↔ (both eq l other.elements ≡ [])) × (m ≡ l)
  ListStep l (Intersect other) reply m = MakesSet (both eq l other.elements) reply × (m ≡ l)
  ListStep l (Unite other) reply m = MakesSet (union_of eq l other.elements) reply × (m ≡ l)
  ListStep l (Exclusive other) reply m = MakesSet (symmetric_difference_of eq l other.elements) reply × (m ≡ l)
  ListStep l (Subtract other) reply m = MakesSet (only eq l other.elements) reply × (m ≡ l)
  ListStep l command reply m = ⊥

  -- The capacity after an element is added: only a new element in a full set needs memory.
  abbrev pub AddsInRoom : T → Contents T → SetReply T → Contents T → Type 0
  AddsInRoom x s NoMemory t = IsFull s × (t.capacity ≡ s.capacity)
  AddsInRoom x s reply t = KeepsRoom eq s x t

  -- The capacity afterwards: only a command that adds can change it, and only if memory suffices.
  abbrev pub CapacityStep : Contents T → SetCommand T → SetReply T → Contents T → Type 0
  CapacityStep s (Insert x) reply t = AddsInRoom x s reply t
  CapacityStep s (Replace x) reply t = AddsInRoom x s reply t
  CapacityStep s (Append other) NoMemory t = ¬ (HasRoom s (length other.elements)) × (t.capacity ≡ s.capacity)
  CapacityStep s (Append other) reply t = (s.capacity ≤ t.capacity) × (HasRoom s (length other.elements) → t.capacity ≡ s.capacity)
  CapacityStep s command reply t = t.capacity ≡ s.capacity

  -- One command with this reply turns the set s into the set t: the list and what becomes of the capacity.
  abbrev pub Effect : Contents T → SetCommand T → SetReply T → Contents T → Type 0
  Effect s command reply t = ListStep s.elements command reply t.elements × CapacityStep s command reply t

  -- One command with this reply turns the set s into the set t, whose elements fit its capacity.
  abbrev pub Step : Contents T → SetCommand T → SetReply T → Contents T → Type 0
  Step s command reply t = Effect s command reply t × (length t.elements ≤ t.capacity)

  -- The commands, in order, turn the set s into the set t with these replies.
  abbrev pub Run : Contents T → List (SetCommand T) → List (SetReply T) → Contents T → Type 0
  Run s [] [] t = t ≡ s
  Run s (command ∷ commands) (reply ∷ replies) t =
      (next : Contents T) × Step s command reply next × Run next commands replies t
  Run s [] (reply ∷ replies) t = ⊥
  Run s (command ∷ commands) [] t = ⊥
