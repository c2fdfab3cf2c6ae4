-- What a list of pairs is after a closure was called for each pair, in order, and wrote the value. In the examples,
-- `sets c` is a closure that sets each value to `c`.
use Rattle.std.specs.{Prelude.{◌≡◌, ◌<◌, ℕ, Bool, true, IsSome, List, ◌∷◌, ◌++◌, Some, length, map, option_map, Result, Ok, Err}, Borrow.{Bor, MutBor}}
use Rattle.std.specs.{Fn.{Called, Mut, Takes}, List.All, Map.values_of}
use Rattle.vecmap_base.specs.{FnMutCalls.CallableOnEach, Indices.KeepsIndices, Kept.Kept, Pairs.{lookup_by, map_values, value_at}}

module _ {F X : Type 0} (R : F → X → X → F → Type 0) where
  -- Calls that return nothing, seen as the calls of a retaining closure that keeps each item.
  abbrev pub Keeping : F → X → Bool → X → F → Type 0
  Keeping f x b y g = R f x y g × (b ≡ true)

  -- Example: a closure that adds 1 to each value, of `[(1,5), (2,6)]`: `[(1,6), (2,7)]`.
  -- The calls at the items of `l`, in order, took the closure from `f` to `g`, and left the items as in the list `m`.
  abbrev pub Updated : F → List X → List X → F → Type 0
  Updated = Kept Keeping

  -- Example: of a closure that adds 1 to the value, and of one that also counts its calls: `h` of `(1,5)` is `(1,6)`.
  -- Each call of the closure in the state `f` writes `h` of the item, and leaves that state.
  abbrev pub Computes : F → (X → X) → Type 0
  Computes f h = (x y : X) (g : F) → R f x y g → (y ≡ h x) × (g ≡ f)

  -- Each call of the closure, in any state, writes `h` of the item.
  abbrev pub AlwaysComputes : (X → X) → Type 0
  AlwaysComputes h = (f : F) (x y : X) (g : F) → R f x y g → y ≡ h x

module _ {F K V : Type 0} (R : F → K × V → K × V → F → Type 0) where
  -- Example: `UpdatesPairs (sets c) tt [(1, a), (2, b)] [(1, c), (2, c)]`; `¬ (UpdatesPairs (sets c) tt [(1, a)] [])`.
  -- The closure in the state `f` was called for each pair of `l`, in order, and left the pairs as in the list `m`.
  pub record UpdatesPairs (f : F) (l m : List (K × V)) : Type 0 where
    -- Each pair is as its call left it, in the state that the calls before have left.
    pub updated : (g : F) × Updated R f l m g
    -- What is written if each call writes the same function of its pair, and what lookups find if it is one of the value.
    pub written : (h : K × V → K × V) → Computes R f h → m ≡ map h l
    pub written_in_any_state : (h : K × V → K × V) → AlwaysComputes R h → m ≡ map h l
    pub lookups : (h : V → V) → Computes R f (λ pair. (pair.0, h pair.1)) → (test : K → Bool) → lookup_by test m ≡ option_map h (lookup_by test l)
    -- The keys stay, each at its index.
    pub keys : KeepsIndices l m

-- Example: `SetsValues c [(1, a), (2, b)] [(1, c), (2, c)]`; `¬ (SetsValues c [(1, a), (2, b)] [(1, c)])`.
-- The list `m` is the list `l` with `w` as each value.
pub record SetsValues {K V : Type 0} (w : V) (l m : List (K × V)) : Type 0 where
  pub entries : m ≡ map_values (λ _. w) l
  -- What lookups find, and which values the list has.
  pub lookups : (test : K → Bool) → IsSome (lookup_by test l) → lookup_by test m ≡ Some w
  pub values : All (λ v. v ≡ w) (values_of m)
  pub at : (i : ℕ) → i < length l → value_at m i ≡ Some w
  -- The keys stay, each at its index.
  pub keys : KeepsIndices l m

module _ {F K V R : Type 0} (c : Mut F (Bor K × (MutBor V × Unit {0})) (R × (MutBor V × Unit {0}))) where
  -- The closure may be called at the pair `p`, with its value to write.
  abbrev pub CallableAtValue : F → K × V → Type 0
  CallableAtValue f p = (k : Bor K) (v : MutBor V) → k.now ≡ p.0 → v.now ≡ p.1 → Takes c f (k, (v, tt))

  -- A call at a `&` to `k` and a `&mut` to `v` may return `r`, and leave `w` there and the closure `g`.
  pub record WritesValue (r : R) (f : F) (k : K) (v w : V) (g : F) : Type 0 where
    -- The references that are passed, and what they show.
    pub key : Bor K
    pub value : MutBor V
    pub shows : (key.now ≡ k) × (value.now ≡ v)
    -- The call, and what it leaves.
    pub left : MutBor V
    pub called : Called c f (key, (value, tt)) (r, (left, tt)) g
    pub leaves : left.now ≡ w

  -- Example: a closure that adds 1 to the value: from `(1,5)` to `(1,6)`.
  -- A call at the pair `p` may return `r`, and leave the pair `q`, with the same key, and the closure `g`.
  abbrev pub WritesValueAt : R → F → K × V → K × V → F → Type 0
  WritesValueAt r f p q g = WritesValue r f p.0 p.1 q.1 g × (q.0 ≡ p.0)

  -- Example: a closure that adds 1 may be called at pairs whose values are below the greatest.
  -- The closure may be called at each pair of `l`, in the state that the calls before have left, which returned `r`.
  abbrev pub CallableOnValues : R → F → List (K × V) → Type 0
  CallableOnValues r f l = CallableOnEach (Keeping (WritesValueAt r)) CallableAtValue f l

module _ {F K V E : Type 0} (c : Mut F (Bor K × (MutBor V × Unit {0})) (Result (Unit {0}) E × (MutBor V × Unit {0}))) where
  -- The list `m` has the pairs that were passed as the calls left them, and the others as they were.
  -- Example: a closure that adds 1 below 9, of `[(1,5), (2,9), (3,5)]`: `[(1,6), (2,9), (3,5)]`.
  -- The calls at the first pairs of `l` returned `Ok`, and the next one `e`.
  pub record StoppedAt (e : E) (f : F) (l m : List (K × V)) : Type 0 where
    -- The pairs before the call that failed and after it, what the calls before it wrote, and what it wrote itself.
    pub before : List (K × V)
    pub after : List (K × V)
    pub written : List (K × V)
    pub pair : K × V
    pub left : K × V
    -- The state in which it was called, and how these make both lists.
    pub state : F
    pub all : l ≡ before ++ pair ∷ after
    pub updated : Updated (WritesValueAt c (Ok tt)) f before written state
    pub failed : (last : F) × WritesValueAt c (Err e) state pair left last
    pub leaves : m ≡ written ++ left ∷ after
