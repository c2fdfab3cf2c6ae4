-- What iterators have left and yield.
use Rattle.std.specs.{Prelude.{◌≡◌, ℕ, ◌<◌, ◌^◌, IfSome, List, Option, Some, length, map}, Borrow.{GName, MutBor}, Iterator.{UpTo, at_most}}
use Rattle.std.specs.{Iterator.SizeHint.IsWithinCount, Iterator.Runs.{EveryRun, ItemsMapTo, ItemsMapToReversed}}
use Rattle.std.specs.Map.Iter.{GivesInOrder, GivesInReverse, ShowsInOrder, ShowsInReverse, TakesFirst, TakesLast}
use Rattle.std.specs.Slice.Iter as slice
use Rattle.vecmap_base.specs.{declared.iter.by_mut.IterMutOf.IterMutOf, declared.projection.Key.Key, declared.projection.Pair.Pair}
use Rattle.vecmap_base.specs.{declared.projection.PairMut.PairMut, declared.projection.Value.Value}

-- Example: of a `&mut` to 5: 5.
-- What a `&mut T` points to.
abbrev pub deref_mut : {X : Type 0} → MutBor X → X
deref_mut x = x.now

-- What a `(&mut K, &mut V)` points to.
abbrev pub deref_both_mut : {K V : Type 0} → MutBor K × MutBor V → K × V
deref_both_mut p = (p.0.now, p.1.now)

-- The length fits a `usize`.
-- Example: `iter` of `[(1,a), (2,b)]`: these two, in either direction.
-- The iterator `r` has the list `l` left, and shows it in order, and in reverse from the back.
abbrev pub ShowsAll : {A X : Type 0} → (A → X) → List X → List X → Type 0
ShowsAll shows l r = (r ≡ l) × (length r < 2 ^ 64) × ShowsInOrder shows × ShowsInReverse shows

-- The length fits a `usize`.
-- Example: `into_iter` of `[(1,a), (2,b)]`: these two, in either direction.
-- The iterator `r`, which owns its items, has the list `l` left, and yields it in order, and in reverse from the back.
abbrev pub GivesAll : {X : Type 0} → List X → List X → Type 0
GivesAll {X} l r = (r ≡ l) × (length r < 2 ^ 64) × GivesInOrder X × GivesInReverse X

-- An iterator that is not seen as a list, as its borrow is followed: in the state `s` it has the list `rest s` left.
module _ {S A X : Type 0} (shows : A → X) (rest : S → List X) where
  -- Example: of `iter_mut` of `[(1,a), (2,b)]`: `(1,a)`.
  -- A call of `next` at `s` returned `r`, which shows the first item that was left, and led to `t`.
  abbrev pub TakesFirstOf : S → Option A → S → Type 0
  TakesFirstOf s r t = TakesFirst shows (rest s) r (rest t)

  -- Example: of `iter_mut` of `[(1,a), (2,b)]`: `(2,b)`.
  -- A call of `next_back` at `s` returned `r`, which shows the last item that was left, and led to `t`.
  abbrev pub TakesLastOf : S → Option A → S → Type 0
  TakesLastOf s r t = TakesLast shows (rest s) r (rest t)

  -- Example: `iter_mut` of `[(1,a), (2,b)]`: these two.
  -- `ShowsAll` of such an iterator.
  abbrev pub ShowsAllOf : List X → S → Type 0
  ShowsAllOf l s = (rest s ≡ l) × (length l < 2 ^ 64) × EveryRun TakesFirstOf (λ p. ItemsMapTo p shows (rest p.from)) × EveryRun TakesLastOf (λ p. ItemsMapToReversed p shows (rest p.from))

-- Example: `IsHintFor 2 (0, Some 3)`; `¬ (IsHintFor 2 (3, None))`; `¬ (IsHintFor 2 (0, Some 1))`.
-- Both bounds of a `size_hint` allow for `n` items, as the trait `Iterator` requires.
abbrev pub IsHintFor : ℕ → ℕ × Option ℕ → Type 0
IsHintFor n hint = IsWithinCount hint.0 (at_most n) × IfSome hint.1 (UpTo (at_most n))

-- Example: `HintsExactly 2 (2, Some 2)`; `¬ (HintsExactly 2 (0, Some 3))`.
-- `hint` is the exact `size_hint` of an iterator that has `n` items left: both bounds are `n`.
pub record HintsExactly (n : ℕ) (hint : ℕ × Option ℕ) : Type 0 where
  pub bounds : IsHintFor n hint
  pub exact : hint ≡ (n, Some n)

-- The parts that an `IterMutOf` has left, as they were when it was created.
abbrev pub rest_of : {X T P : Type 0} → (X → T) → IterMutOf X T P → List T
rest_of part s = map part (slice.iter_mut_rest s.items)

-- The ghost name of the borrow of an `IterMutOf`.
abbrev pub name_of : {X T P : Type 0} → IterMutOf X T P → GName
name_of s = slice.iter_mut_name s.items

module _ {K V : Type 0} where
  -- Example: of `iter_mut` of `[(1,a), (2,b)]`, after one call of `next`: `[(2,b)]`.
  -- The pairs that an `IterMut` has left.
  abbrev pub iter_mut_rest : IterMutOf (K × V) (K × V) Pair → List (K × V)
  iter_mut_rest s = rest_of (λ p. p) s

  -- The ghost name of the borrow of an `IterMut`.
  abbrev pub iter_mut_name : IterMutOf (K × V) (K × V) Pair → GName
  iter_mut_name s = name_of s

  -- The pairs that an `IterMut2` has left.
  abbrev pub iter_mut2_rest : IterMutOf (K × V) (K × V) PairMut → List (K × V)
  iter_mut2_rest s = rest_of (λ p. p) s

  -- The ghost name of the borrow of an `IterMut2`.
  abbrev pub iter_mut2_name : IterMutOf (K × V) (K × V) PairMut → GName
  iter_mut2_name s = name_of s

  -- The keys that a `KeysMut` has left.
  abbrev pub keys_mut_rest : IterMutOf (K × V) K Key → List K
  keys_mut_rest s = rest_of (λ p. p.0) s

  -- The ghost name of the borrow of a `KeysMut`.
  abbrev pub keys_mut_name : IterMutOf (K × V) K Key → GName
  keys_mut_name s = name_of s

  -- The values that a `ValuesMut` has left.
  abbrev pub values_mut_rest : IterMutOf (K × V) V Value → List V
  values_mut_rest s = rest_of (λ p. p.1) s

  -- The ghost name of the borrow of a `ValuesMut`.
  abbrev pub values_mut_name : IterMutOf (K × V) V Value → GName
  values_mut_name s = name_of s
