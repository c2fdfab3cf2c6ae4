-- Closures over pairs or items: where they may be called, what they return, and the order in which they put a list. The
-- closures are `Fn`, so one statement holds for all calls.
use Rattle.std.specs.{Prelude.{◌≡◌, ◌<◌, ℕ, Bool, Contains, List, length, cond}, Borrow.Bor, Cmp.IsStrictWeakOrder, Fn.Shared, List.HoldsAt}
use Rattle.std.specs.{List.Sorted.{IsSortedBy, IsSortedByKey, IsStableBy, IsStableByKey}, Ordering.is_lt, declared.cmp.Ordering.Ordering}
use Rattle.std.specs.declared.cmp.Ordering.TheVariants.{Greater, Less}

-- Example: a closure that indexes a table of 3 items may be called at 2, and not at 3.
-- The closure `f` may be called at the item `x`.
abbrev pub CallableOnItem : {F T R : Type 0} → Shared F (Bor T × Unit {0}) R → F → T → Type 0
CallableOnItem {F} {T} g f x = (a : Bor T) → a.now ≡ x → g.pre f (a, tt)

-- The closure `f` may be called at the key and the value of the pair `p`.
abbrev pub CallableOnPair : {F K V R : Type 0} → Shared F (Bor K × (Bor V × Unit {0})) R → F → K × V → Type 0
CallableOnPair {F} {K} {V} g f p = (k : Bor K) (v : Bor V) → k.now ≡ p.0 → v.now ≡ p.1 → g.pre f (k, (v, tt))

-- Example: a closure that indexes a table of 3 items, and 2 items.
-- The closure `f` may be called at each index of a list of `n` items.
abbrev pub CallableBelow : {F R : Type 0} → Shared F (ℕ × Unit {0}) R → F → ℕ → Type 0
CallableBelow g f n = (i : ℕ) → i < n → g.pre f (i, tt)

-- Example: a closure that indexes a table by each item, of items in its range.
-- Each call of `f`, at an item of `xs`, returns `h` of it.
abbrev pub ReturnsOnItems : {F T R : Type 0} → Shared F (Bor T × Unit {0}) R → (T → R) → F → List T → Type 0
ReturnsOnItems {F} {T} {R} g h f xs = (x : Bor T) (r : R) → Contains xs x.now → g.post f (x, tt) r → r ≡ h x.now

-- Each call of `f`, at a key and its value, returns `h` of the pair.
abbrev pub ReturnsOnPair : {F K V R : Type 0} → Shared F (Bor K × (Bor V × Unit {0})) R → (K × V → R) → F → Type 0
ReturnsOnPair {F} {K} {V} {R} g h f = (k : Bor K) (v : Bor V) (r : R) → g.post f (k, (v, tt)) r → r ≡ h (k.now, v.now)

-- Each call of `f`, at the key and the value of a pair of `l`, returns `h` of it.
abbrev pub ReturnsOnPairs : {F K V R : Type 0} → Shared F (Bor K × (Bor V × Unit {0})) R → (K × V → R) → F → List (K × V) → Type 0
ReturnsOnPairs {F} {K} {V} {R} g h f l = (k : Bor K) (v : Bor V) (r : R) → Contains l (k.now, v.now) → g.post f (k, (v, tt)) r → r ≡ h (k.now, v.now)

-- Example: `side true ≡ Less`.
-- How an item compares with a partition point: an item that passes is less, and an item that fails is greater.
abbrev pub side : Bool → Ordering
side passes = cond passes Less Greater

-- Example: a closure that compares the item at its index with 3.
-- Each call of `f`, at the index of an item of `xs`, returns `h` of the item.
abbrev pub ReturnsAtIndex : {F T R : Type 0} → Shared F (ℕ × Unit {0}) R → (T → R) → F → List T → Type 0
ReturnsAtIndex {F} {T} {R} g h f xs = (i : ℕ) (r : R) → i < length xs → g.post f (i, tt) r → HoldsAt (λ x. r ≡ h x) xs i

module _ {F K V : Type 0} (g : Shared F ((Bor K × Bor V) × ((Bor K × Bor V) × Unit {0})) Ordering) where
  -- Example: a closure that compares the values.
  -- Each call of `f`, at two pairs, returns `Less` exactly if `lt` holds of them.
  abbrev pub ComparesPairsAs : (K × V → K × V → Bool) → F → Type 0
  ComparesPairsAs lt f = (a b : Bor K × Bor V) (r : Ordering) → g.post f (a, (b, tt)) r → is_lt r ≡ lt (a.0.now, a.1.now) (b.0.now, b.1.now)

  -- Example: by value `[(b,1), (c,1), (a,2)]` of `[(b,1), (a,2), (c,1)]`.
  -- The pairs ascend by the order that `f` returns, if it is an order.
  abbrev pub IsSortedByPairClosure : F → List (K × V) → Type 0
  IsSortedByPairClosure f l = (lt : K × V → K × V → Bool) → IsStrictWeakOrder lt → ComparesPairsAs lt f → IsSortedBy lt l

  -- Pairs that tie by that order are in the same order in `m` as in `l`.
  abbrev pub IsStableByPairClosure : F → List (K × V) → List (K × V) → Type 0
  IsStableByPairClosure f l m = (lt : K × V → K × V → Bool) → IsStrictWeakOrder lt → ComparesPairsAs lt f → IsStableBy lt l m

module _ {F K V T : Type 0} (g : Shared F (Bor K × (Bor V × Unit {0})) T) (cmp : T → T → Ordering) where
  -- Example: by the key `value`: `[(b,1), (c,1), (a,2)]` of `[(b,1), (a,2), (c,1)]`.
  -- The pairs ascend by the sort keys that `f` returns, if these are the values of a function.
  abbrev pub IsSortedByPairKey : F → List (K × V) → Type 0
  IsSortedByPairKey f l = (key : K × V → T) → ReturnsOnPair g key f → IsSortedByKey key cmp l

  -- Pairs whose sort keys tie are in the same order in `m` as in `l`.
  abbrev pub IsStableByPairKey : F → List (K × V) → List (K × V) → Type 0
  IsStableByPairKey f l m = (key : K × V → T) → ReturnsOnPair g key f → IsStableByKey key cmp l m
