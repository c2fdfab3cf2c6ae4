-- Calls of a closure for each item of a list, in order: when the closure may be called, and what a call returns and
-- leaves.
use Rattle.std.specs.{Prelude.{◌≡◌, Bool, List, ◌∷◌, ◌++◌}, List.FoldsTo, Borrow.{MutBor, Bor}, Fn.{Called, CalledAt, Mut, Takes}}
use Rattle.std.specs.Map.Calls.{CalledAtPair, TakesPair}

module _ {F X : Type 0} (R : F → X → Bool → X → F → Type 0) where
  -- Example: of a closure that counts its calls: from 2 to 3.
  -- Some call of `f` at `x` leaves `g`.
  abbrev pub SomeCall : F → X → F → Type 0
  SomeCall f x g = (b : Bool) × (y : X) × R f x b y g

  -- Example: a closure that counts its calls may be called at each of a list that is short enough.
  -- The closure may be called at each item, in the state that the calls before have left.
  pub record CallableOnEach (Q : F → X → Type 0) (f : F) (l : List X) : Type 0 where
    pub at : (before after : List X) (g : F) (x : X) → l ≡ before ++ x ∷ after → FoldsTo SomeCall f before g → Q g x

-- Example: a test for even numbers: at 4 it returns `true`.
-- A call of a closure over `&T` at the item `x` may return `b` and leave `g`. It writes nothing.
abbrev pub CallsAtItem : {F T : Type 0} → Mut F (Bor T × Unit {0}) Bool → F → T → Bool → T → F → Type 0
CallsAtItem c f x b y g = CalledAt c f x b g × (y ≡ x)

module _ {F K V : Type 0} where
  -- The closure may be called at the pair `p`, with its value to write.
  abbrev pub CallableAtPair : Mut F (Bor K × (MutBor V × Unit {0})) (Bool × (MutBor V × Unit {0})) → F → K × V → Type 0
  CallableAtPair c f p = TakesPair c f p.0 p.1

  -- The closure may be called at the pair `p`, with its key and its value to write.
  abbrev pub CallableAtPairMut : Mut F (MutBor K × (MutBor V × Unit {0})) (Bool × (MutBor K × (MutBor V × Unit {0}))) → F → K × V → Type 0
  CallableAtPairMut c f p = (k : MutBor K) (v : MutBor V) → k.now ≡ p.0 → v.now ≡ p.1 → Takes c f (k, (v, tt))

  -- Example: a closure that adds 1 to the value: from `(1,5)` to `(1,6)`.
  -- A call over `&K` and `&mut V` at the pair `p` may return `b`, and leave the pair `q` and the closure `g`.
  abbrev pub CallsAtPair : Mut F (Bor K × (MutBor V × Unit {0})) (Bool × (MutBor V × Unit {0})) → F → K × V → Bool → K × V → F → Type 0
  CallsAtPair c f p b q g = CalledAtPair c f p.0 p.1 b q.1 g × (q.0 ≡ p.0)

  -- A call over `&mut K` and `&mut V` at the pair `p` may return `b`, and leave the pair `q` and the closure `g`.
  pub record CallsAtPairMut (c : Mut F (MutBor K × (MutBor V × Unit {0})) (Bool × (MutBor K × (MutBor V × Unit {0})))) (f : F) (p : K × V) (b : Bool) (q : K × V) (g : F) : Type 0 where
    -- The references that are passed, and what they show.
    pub key : MutBor K
    pub value : MutBor V
    pub shows : (key.now ≡ p.0) × (value.now ≡ p.1)
    -- The call, and what it leaves.
    pub left_key : MutBor K
    pub left_value : MutBor V
    pub called : Called c f (key, (value, tt)) (b, (left_key, (left_value, tt))) g
    pub leaves : (left_key.now ≡ q.0) × (left_value.now ≡ q.1)
