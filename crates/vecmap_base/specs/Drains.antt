-- What contracts say of drains, which remove a range from a collection. `rest` is the list of the items that a drain
-- has still to return. `Keeps` says that a call changes nothing of what the collection holds once the drain is dropped.
use Rattle.std.specs.{Prelude.{◌≡◌, List, [], ◌∷◌, ◌++◌, MatchOption, Option}, Iterator.Yields}

module _ {D A : Type 0} (rest : D → List A) (Keeps : D → D → Type 0) where
  -- If nothing was left, it returned `None` and changed nothing.
  -- Example: from `[1,2,3]`: 1, and `[2,3]` is left.
  -- A call of `next` in `s` returned the first item of the rest and left `t`.
  abbrev pub DrainsFirst : D → Option A → D → Type 0
  DrainsFirst s r t = MatchOption r ((rest s ≡ []) × (t ≡ s)) (λ x. (rest s ≡ x ∷ rest t) × Keeps s t)

  -- If nothing was left, it returned `None` and changed nothing.
  -- Example: from `[1,2,3]`: 3, and `[1,2]` is left.
  -- A call of `next_back` in `s` returned the last item of the rest and left `t`.
  abbrev pub DrainsLast : D → Option A → D → Type 0
  DrainsLast s r t = MatchOption r ((rest s ≡ []) × (t ≡ s)) (λ x. (rest s ≡ rest t ++ x ∷ []) × Keeps s t)

module _ {D A : Type 0} (pull : D → Option A → D → Type 0) (Keeps : D → D → Type 0) where
  -- Each state that these calls lead to, from the front or from the back, keeps what `s` keeps.
  abbrev pub KeepsAlong : D → Type 0
  KeepsAlong s = (xs : List A) (t : D) → Yields pull s xs t → Keeps s t
