-- What is left of a list if a closure is called for each item, in order, and decides which items stay. In the examples,
-- `keeps test` is a closure that keeps what passes a test, and `eq` sees of a pair the key alone.
use Rattle.std.specs.Prelude.{◌≡◌, ℕ, ◌≤◌, Bool, true, List, [], ◌∷◌, None, Option, Some, drop, false, filter, if◌then◌else◌, length, not, take}
use Rattle.std.specs.{Map.IsKeyTest, Option.option_and_then}
use Rattle.vecmap_base.specs.{Pairs.{HasDistinctKeys, lookup_by}}

-- An item stays if the call at it returns `true`, as the call leaves it.
-- Example: every second of `[1,2,3,4]`: `[2,4]`.
-- The calls at the items of `l`, in order, took the closure from `f` to `g`, and kept the items `m`.
abbrev pub Kept : {F X : Type 0} → (F → X → Bool → X → F → Type 0) → F → List X → List X → F → Type 0
Kept R f [] m g = (m ≡ []) × (g ≡ f)
Kept {F} {X} R f (x ∷ xs) m g = (b : Bool) × (y : X) × (h : F) × (rest : List X) × R f x b y h × Kept R h xs rest g × (m ≡ (if b then y ∷ rest else rest))

module _ {F X : Type 0} (R : F → X → Bool → X → F → Type 0) where
  -- Example: of a closure that keeps what is below 5: the test is `true` of 4.
  -- Each call of the closure in the state `f` returns the result of the test, writes nothing and leaves that state.
  abbrev pub TestsItems : F → (X → Bool) → Type 0
  TestsItems f test = (x : X) (b : Bool) (y : X) (g : F) → R f x b y g → (b ≡ test x) × (y ≡ x) × (g ≡ f)

module _ {F K V : Type 0} (R : F → K × V → Bool → K × V → F → Type 0) where
  -- Example: of a closure that keeps the values above 5: `h` of 7 is `Some 7`, and of 5 `None`.
  -- Each call of the closure in the state `f` leaves that state. It keeps what `h` makes of the value, and `None` is not kept.
  abbrev pub FiltersValues : F → (V → Option V) → Type 0
  FiltersValues f h = (p : K × V) (b : Bool) (q : K × V) (g : F) → R f p b q g → (h p.1 ≡ (if b then Some q.1 else None)) × (g ≡ f)

  -- Example: true of each closure that takes a `&` to the key.
  -- No call of the closure writes the key.
  abbrev pub KeepsKeys : Type 0
  KeepsKeys = (f : F) (p : K × V) (b : Bool) (q : K × V) (g : F) → R f p b q g → q.0 ≡ p.0

  -- Example: of a closure that keeps the keys below 5, at keys that are equal to 7: `false`.
  -- Each call in the state `f` leaves that state. At a key that passes the test it returns `kept` and leaves the value.
  abbrev pub ReturnsAtKey : F → (K → Bool) → Bool → Type 0
  ReturnsAtKey f test kept = (p : K × V) (b : Bool) (q : K × V) (g : F) → R f p b q g → (test p.0 ≡ true → (b ≡ kept) × (q.1 ≡ p.1)) × (g ≡ f)

  -- Example: of a closure that keeps the values above 5, at 7: `true`.
  -- Each call in the state `f` leaves that state. At the value `v` it returns `kept` and leaves the value.
  abbrev pub ReturnsAtValue : F → V → Bool → Type 0
  ReturnsAtValue f v kept = (p : K × V) (b : Bool) (q : K × V) (g : F) → R f p b q g → (p.1 ≡ v → (b ≡ kept) × (q.1 ≡ p.1)) × (g ≡ f)

  -- Example: `Retains (keeps (eq (1, a))) tt [(1, b), (2, c)] [(1, b)]`; `¬ (Retains (keeps (eq (1, a))) tt [] [(1, b)])`.
  -- How many pairs of `l` the closure leaves in `m` from the state `f` on, and which if it only tests them.
  pub record Retains (f : F) (l m : List (K × V)) : Type 0 where
    pub len : length m ≤ length l
    pub filters : (keep : K × V → Bool) → TestsItems R f keep → m ≡ filter keep l
    pub same : (test : K → Bool) → lookup_by test l ≡ None → ReturnsAtKey f (λ k. not (test k)) true → KeepsKeys → m ≡ l

  -- Example: `RetainsPairs (keeps (eq (1, a))) tt [(1, b), (2, c)] [(1, b)]`.
  -- Example: `¬ (RetainsPairs (keeps (eq (1, a))) tt [] [(1, b)])`.
  -- The list `m` has the pairs of `l` for which the closure returned `true`, called in order from the state `f` on, as it left them.
  pub record RetainsPairs (f : F) (l m : List (K × V)) : Type 0 where
    pub retained : (g : F) × Kept R f l m g
    -- What lookups find if what the closure does depends on the value alone.
    pub lookups : (h : V → Option V) → FiltersValues f h → (test : K → Bool) (eq : K → K → Bool) → HasDistinctKeys eq l → IsKeyTest eq test → lookup_by test m ≡ option_and_then h (lookup_by test l)
    -- What a query finds if the closure returns the same at each key that it matches: what it found, or nothing.
    pub selected : (test : K → Bool) (kept : Bool) → ReturnsAtKey f test kept → lookup_by test m ≡ (if kept then lookup_by test l else None)
    pub stays : (test : K → Bool) → ReturnsAtKey f test true → lookup_by test m ≡ lookup_by test l
    pub gone : (test : K → Bool) → ReturnsAtKey f test false → lookup_by test m ≡ None
    pub distinct : (eq : K → K → Bool) → HasDistinctKeys eq l → HasDistinctKeys eq m
    -- How many pairs are left, and which if the closure only tests them.
    pub left : Retains f l m

module _ {F X : Type 0} (R : F → X → Bool → X → F → Type 0) where
  -- Example: of a closure that sets each value to 0: `h` of `(1,5)` is `(1,0)`.
  -- Each call of the closure in the state `f` returns `true`, writes `h` of the item and leaves that state.
  abbrev pub WritesItems : F → (X → X) → Type 0
  WritesItems f h = (x : X) (b : Bool) (y : X) (g : F) → R f x b y g → (b ≡ true) × (y ≡ h x) × (g ≡ f)

  -- Example: of a closure that keeps what is below 5, at items that are equal to 7: `false`.
  -- Each call of the closure in the state `f` leaves that state, and returns `kept` at an item that passes the test.
  abbrev pub ReturnsAt : F → (X → Bool) → Bool → Type 0
  ReturnsAt f test kept = (x : X) (b : Bool) (y : X) (g : F) → R f x b y g → (test x ≡ true → b ≡ kept) × (g ≡ f)

  -- The first `k` items of `ys` are the kept items, as they were written. From `i` on, `ys` is `xs`.
  -- The closure was called for the first `i` items of `xs`, in order, which took it from `f0` to `f`.
  pub record KeptSoFar (f0 f : F) (xs ys : List X) (k i : ℕ) : Type 0 where
    pub bound : k ≤ i
    pub len : length ys ≡ length xs
    pub rest : drop i ys ≡ drop i xs
    pub run : Kept R f0 (take i xs) (take k ys) f
