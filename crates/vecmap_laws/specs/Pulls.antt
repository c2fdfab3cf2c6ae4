-- Calls of `next` and `next_back`, in any mixture.
use Rattle.std.specs.Prelude.{◌≡◌, ◌-◌, List, [], ◌∷◌, Option, drop, length, slice_get, take}

-- The end of a call: `front` is `next`, `back` is `next_back`.
pub data End : Type 0 where
  front : End
  back : End

module _ {T : Type 0} where
  -- `next` returns the first of `l` and `next_back` the last, and both return none once `l` is empty.
  abbrev pub Pulls : List T → List End → List (Option T) → List T → Type 0
  Pulls l [] items rest = (items ≡ []) × (rest ≡ l)
  Pulls l (front ∷ ends) items rest = (more : List (Option T)) × (items ≡ slice_get l 0 ∷ more) × Pulls (drop 1 l) ends more rest
  Pulls l (back ∷ ends) items rest = (more : List (Option T)) × (items ≡ slice_get l (length l - 1) ∷ more) × Pulls (take (length l - 1) l) ends more rest

module _ {S A : Type 0} (next next_back : S → Option A → S → Type 0) where
  -- Calls of `next` and of `next_back`, at these ends in order, led from `s` to `t` and returned `items`.
  abbrev pub PullsBy : S → List End → List (Option A) → S → Type 0
  PullsBy s [] items t = (items ≡ []) × (t ≡ s)
  PullsBy s (front ∷ ends) items t = (r : Option A) × (u : S) × (more : List (Option A)) × next s r u × (items ≡ r ∷ more) × PullsBy u ends more t
  PullsBy s (back ∷ ends) items t = (r : Option A) × (u : S) × (more : List (Option A)) × next_back s r u × (items ≡ r ∷ more) × PullsBy u ends more t
