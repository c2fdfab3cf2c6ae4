-- What the lazy iterators over two lists of elements have left, and what their calls return. `eq` is the `==` of the
-- elements.
use Rattle.std.specs.Prelude.{◌≡◌, ℕ, ◌<◌, ◌^◌, Bool, List, ◌++◌, ◌⊎◌, MatchOption, None, Option, Some, SomeIff, filter, if◌then◌else◌, length, nat_lt, not}
use Rattle.std.specs.{Borrow.Bor, Iterator.{YieldsFirstRef, YieldsLastRef}, Iterator.Runs.{YieldsRefsInOrder, YieldsRefsInReverse}}
use Rattle.std.specs.{List.{after_first, before_last}, Map.Iter.{TakesFirst, TakesLast, deref}, Set.is_member}

-- Example: `difference` of `[1,2]` and `[2]`: `[1,2]`, looked up in `[2]`.
-- The elements that are not yet visited, and the list in which each of them is looked up.
pub record Filtered (T : Type 0) : Type 0 where
  pub ahead : List T
  pub other : List T

-- Example: `symmetric_difference` of `[1,2]` and `[2,3]`: the elements of each, looked up in the other.
-- Two parts in order.
pub record Parts (A B : Type 0) : Type 0 where
  pub first : A
  pub second : B

module _ {T : Type 0} where
  -- The elements of a, each to be looked up in b.
  abbrev pub filtered_of : List T → List T → Filtered T
  filtered_of a b = record { ahead = a; other = b }

  -- All of a, and then the elements of b, each to be looked up in a.
  abbrev pub union_parts : List T → List T → Parts (List T) (Filtered T)
  union_parts a b = record { first = a; second = filtered_of b a }

  -- Example: `filtered_of_shorter [a, b] [c] ≡ filtered_of [c] [a, b]`; `filtered_of_shorter [a] [c] ≡ filtered_of [a] [c]`.
  -- The elements of the shorter list, or of the first if neither is shorter, each to be looked up in the other.
  abbrev pub filtered_of_shorter : List T → List T → Filtered T
  filtered_of_shorter a b = if nat_lt (length b) (length a) then filtered_of b a else filtered_of a b

  -- Example: `longer_first [a] [b, c] ≡ union_parts [b, c] [a]`; `longer_first [a] [b] ≡ union_parts [a] [b]`.
  -- All of the longer list, or of the first if neither is longer, and then the elements of the other, each to be looked up there.
  abbrev pub longer_first : List T → List T → Parts (List T) (Filtered T)
  longer_first a b = if nat_lt (length a) (length b) then union_parts b a else union_parts a b

  -- The elements of a, each to be looked up in b, and then the elements of b, each to be looked up in a.
  abbrev pub symmetric_parts : List T → List T → Parts (Filtered T) (Filtered T)
  symmetric_parts a b = record { first = filtered_of a b; second = filtered_of b a }

-- Example: `IsBound (Some 5) 5`; `¬ (IsBound None 5)`.
-- The bound r is n, or none if n is greater than `usize::MAX`.
abbrev pub IsBound : Option ℕ → ℕ → Type 0
IsBound r n = SomeIff r (n < 2 ^ 64) n

-- Example: of a union: at the front the longer list, then the other.
-- A call asks one part, and then the other if the first one finds nothing.
abbrev pub TakesFromParts : {A B R : Type 0} → (A → Option R → A → Type 0) → (B → Option R → B → Type 0) → A → B → Option R → A → B → Type 0
TakesFromParts one two a b r c d = MatchOption r (one a None c × two b None d) (λ x. (one a (Some x) c × (d ≡ b)) ⊎ (one a None c × two b (Some x) d))

module _ {S T : Type 0} (rest : S → List T) (next next_back : S → Option (Bor T) → S → Type 0) where
  -- The number of these elements fits a `usize`.
  -- Example: `difference` of `[1,2,3]` and `[2]`: 1, 3, or 3, 1.
  -- The iterator `r` is in the state `s`, and returns what is left there in order, and in reverse from the back.
  abbrev pub LendsAll : S → S → Type 0
  LendsAll s r = (r ≡ s) × (length (rest r) < 2 ^ 64) × YieldsRefsInOrder next rest × YieldsRefsInReverse next_back rest

module _ {T : Type 0} (keeps : List T → T → Bool) where
  -- Example: `filtered_rest (lacks_item nat_eq) (filtered_of [1, 2] [2]) ≡ [1]`.
  -- The elements that are not yet visited and are kept.
  abbrev pub filtered_rest : Filtered T → List T
  filtered_rest s = filter (keeps s.other) s.ahead

  -- Example: from `[2,3,4]` by what `[2,4]` lacks: 3, and `[4]` is left.
  -- `next` at s returned r, the first element that is kept. It left t, without r and the elements before r.
  abbrev pub FiltersFirst : Filtered T → Option (Bor T) → Filtered T → Type 0
  FiltersFirst s r t = YieldsFirstRef filtered_rest s r t × (t ≡ record s { ahead = after_first (keeps s.other) s.ahead })

  -- Example: from `[1,3,4]` by what `[2,4]` lacks: 3, and `[1]` is left.
  -- `next_back` at s returned r, the last element that is kept. It left t, without r and the elements after r.
  abbrev pub FiltersLast : Filtered T → Option (Bor T) → Filtered T → Type 0
  FiltersLast s r t = YieldsLastRef filtered_rest s r t × (t ≡ record s { ahead = before_last (keeps s.other) s.ahead })

  -- The iterator `r` is in the state `s`, and returns the elements that are left there and kept.
  abbrev pub FiltersAll : Filtered T → Filtered T → Type 0
  FiltersAll = LendsAll filtered_rest FiltersFirst FiltersLast

module _ {T : Type 0} (eq : T → T → Bool) where
  -- Example: `lacks_item nat_eq [1, 2] 3 ≡ true`.
  -- Whether no element of s is equal to x.
  abbrev pub lacks_item : List T → T → Bool
  lacks_item s x = not (is_member eq s x)

  -- Example: `union_rest nat_eq (union_parts [1, 2] [2, 3]) ≡ [1, 2, 3]`.
  -- The elements of one list, and then the elements of another that are not among them, as far as they are left.
  abbrev pub union_rest : Parts (List T) (Filtered T) → List T
  union_rest s = s.first ++ filtered_rest lacks_item s.second

  -- `next` at s returned r, and left t. It calls the first part, and then the second.
  abbrev pub JoinsFirst : Parts (List T) (Filtered T) → Option (Bor T) → Parts (List T) (Filtered T) → Type 0
  JoinsFirst s r t = YieldsFirstRef union_rest s r t × TakesFromParts (TakesFirst deref) (FiltersFirst lacks_item) s.first s.second r t.first t.second

  -- `next_back` at s returned r, and left t. It calls the second part, and then the first.
  abbrev pub JoinsLast : Parts (List T) (Filtered T) → Option (Bor T) → Parts (List T) (Filtered T) → Type 0
  JoinsLast s r t = YieldsLastRef union_rest s r t × TakesFromParts (FiltersLast lacks_item) (TakesLast deref) s.second s.first r t.second t.first

  -- The iterator `r` is in the state `s`, and returns the union that is left there.
  abbrev pub JoinsAll : Parts (List T) (Filtered T) → Parts (List T) (Filtered T) → Type 0
  JoinsAll = LendsAll union_rest JoinsFirst JoinsLast

  -- Example: `symmetric_rest nat_eq (symmetric_parts [1, 2] [2, 3]) ≡ [1, 3]`.
  -- The elements of either list that are not in the other, as far as they are left.
  abbrev pub symmetric_rest : Parts (Filtered T) (Filtered T) → List T
  symmetric_rest s = filtered_rest lacks_item s.first ++ filtered_rest lacks_item s.second

  -- `next` at s returned r, and left t. It calls the first part, and then the second.
  abbrev pub ExcludesFirst : Parts (Filtered T) (Filtered T) → Option (Bor T) → Parts (Filtered T) (Filtered T) → Type 0
  ExcludesFirst s r t = YieldsFirstRef symmetric_rest s r t × TakesFromParts (FiltersFirst lacks_item) (FiltersFirst lacks_item) s.first s.second r t.first t.second

  -- `next_back` at s returned r, and left t. It calls the second part, and then the first.
  abbrev pub ExcludesLast : Parts (Filtered T) (Filtered T) → Option (Bor T) → Parts (Filtered T) (Filtered T) → Type 0
  ExcludesLast s r t = YieldsLastRef symmetric_rest s r t × TakesFromParts (FiltersLast lacks_item) (FiltersLast lacks_item) s.second s.first r t.second t.first

  -- The iterator `r` is in the state `s`, and returns the elements that are left there and in one list only.
  abbrev pub ExcludesAll : Parts (Filtered T) (Filtered T) → Parts (Filtered T) (Filtered T) → Type 0
  ExcludesAll = LendsAll symmetric_rest ExcludesFirst ExcludesLast

  -- Example: `presence nat_eq true [1, 2] 2 ≡ true`; `presence nat_eq false [1, 2] 2 ≡ false`.
  -- The test of an element against the other list: whether it is present in it, or whether it is not.
  abbrev pub presence : Bool → List T → T → Bool
  presence within = if within then is_member eq else lacks_item
