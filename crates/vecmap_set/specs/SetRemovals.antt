-- What removals of elements leave of a set, one record for each kind of removal. One field is the whole list, and the others
-- follow from it. `eq` is the `==` of the elements, and a test is what a query does with an element.
use Rattle.std.specs.Prelude.{◌≡◌, ◌&&◌, ◌+◌, ◌-◌, ◌<◌, ◌≤◌, ◌||◌, ℕ, Bool, IfSome, IsTrue, List, None, Option, Some, drop, false, filter, if◌then◌else◌, is_some, length, min, nat_lt, position, slice_get, take, true, unwrap_or}
use Rattle.std.specs.List.{IsDistinct, list_any}
use Rattle.vecmap_base.specs.{Items.{adds, stored_first}, Kept.{Kept, ReturnsAt, TestsItems}, Lookups.UpdatesMember}
use Rattle.vecmap_set.specs.SetIndices.{KeepsMatchIndicesBelow}

module _ {T : Type 0} where
  -- Example: `FindsItem (nat_eq 2) [1, 2] (Some 2)`; `¬ (FindsItem (nat_eq 2) [1, 2] None)`.
  -- The element that a query finds, if there is one.
  pub record FindsItem (test : T → Bool) (s : List T) (r : Option T) : Type 0 where
    pub element : r ≡ stored_first test s
    pub found : is_some r ≡ list_any test s
    pub matched : IfSome r (λ x. IsTrue (test x))

  -- Example: from `[1, 2]` to `[2]` for 1.
  -- Tests pass for an element of the list `s` exactly if they pass for `x` or for an element of the list `r`.
  abbrev pub Takes : T → List T → List T → Type 0
  Takes x s r = (f : T → Bool) → list_any f s ≡ (f x || list_any f r)

module _ {T : Type 0} (eq : T → T → Bool) where
  -- Example: `KeepsFrontItems nat_eq 2 [1, 2, 3] [1, 2]`; `¬ (KeepsFrontItems nat_eq 2 [1, 2, 3] [1])`.
  -- The list `r` has the first `n` elements of the list `s`.
  pub record KeepsFrontItems (n : ℕ) (s r : List T) : Type 0 where
    pub elements : r ≡ take n s
    pub distinct : IsDistinct eq r
    -- What queries find, by the index of the match.
    pub matches : (test : T → Bool) → list_any test r ≡ (list_any test s && nat_lt (unwrap_or (position test s) 0) n)
    pub present : (test : T → Bool) (i : ℕ) → position test s ≡ Some i → i < n → list_any test r ≡ true
    -- How many elements there are, and at which indices.
    pub len : length r ≡ min n (length s)
    pub indices : KeepsMatchIndicesBelow n s r

  -- Example: `RetainsItems nat_eq (keeps (nat_eq 2)) tt [1, 2] [2]`; `¬ (RetainsItems nat_eq (keeps (nat_eq 2)) tt [] [2])`.
  -- The list `r` has the elements of the list `s` for which the closure returns `true`, called in order from the state `f` on.
  pub record RetainsItems {F : Type 0} (R : F → T → Bool → T → F → Type 0) (f : F) (s r : List T) : Type 0 where
    pub calls : (g : F) × Kept R f s r g
    pub filters : (keep : T → Bool) → TestsItems R f keep → r ≡ filter keep s
    pub distinct : IsDistinct eq r
    -- What queries find whose matches the closure keeps or not, and how many elements there are.
    pub matches : (query : T → Bool) (kept : Bool) → ReturnsAt R f query kept → list_any query r ≡ (list_any query s && kept)
    pub len : length r ≤ length s

  -- Example: `RemovesItemBy nat_eq without_first (nat_eq 1) [1, 2, 3] [2, 3]`.
  -- Example: `¬ (RemovesItemBy nat_eq without_first (nat_eq 1) [1, 2, 3] [3, 2])`.
  -- The list `r` is the list `s` without the element that passes the test, and with the others as `without` says.
  pub record RemovesItemBy (without : (T → Bool) → List T → List T) (test : T → Bool) (s r : List T) : Type 0 where
    pub elements : r ≡ without test s
    pub distinct : IsDistinct eq r
    -- What queries find: nothing for the element, and for each other what they found.
    pub updates : UpdatesMember eq test s r false
    pub gone : position test r ≡ None
    -- A query whose match was before the element finds it at its index.
    pub before : (other : T → Bool) (i j : ℕ) → position test s ≡ Some j → position other s ≡ Some i → i < j → position other r ≡ Some i
    pub len : length r + (if list_any test s then 1 else 0) ≡ length s

  -- Example: `RemovesItemAt nat_eq remove 0 [1, 2, 3] 1 [2, 3]`; `¬ (RemovesItemAt nat_eq remove 0 [1, 2, 3] 1 [3, 2])`.
  -- The list `r` is the list `s` without its element `x` at the index `i`, and with the others as `without` says.
  pub record RemovesItemAt (without : List T → ℕ → List T) (i : ℕ) (s : List T) (x : T) (r : List T) : Type 0 where
    pub element : slice_get s i ≡ Some x
    pub elements : r ≡ without s i
    -- What queries and tests find, how many elements there are, and where those before the index are.
    pub updates : UpdatesMember eq (eq x) s r false
    pub any : Takes x s r
    pub len : length r + 1 ≡ length s
    pub indices : KeepsMatchIndicesBelow i s r

  -- Example: `RemovesLastItem nat_eq [1, 2] (Some 2) [1]`; `¬ (RemovesLastItem nat_eq [1, 2] (Some 1) [2])`.
  -- The list `r` is the list `s` without its last element, which is returned, if there is one.
  pub record RemovesLastItem (s : List T) (last : Option T) (r : List T) : Type 0 where
    pub element : last ≡ slice_get s (length s - 1)
    pub front : KeepsFrontItems (length s - 1) s r
    pub distinct : IsDistinct eq r
    -- What queries find, by the removed element, and how many elements there are.
    pub updates : IfSome last (λ x. UpdatesMember eq (eq x) s r false)
    pub len : length r + (if is_some last then 1 else 0) ≡ length s

  -- Example: `SplitsItems nat_eq 2 [1, 2, 3] [1, 2] [3]`; `¬ (SplitsItems nat_eq 2 [1, 2, 3] [1] [2, 3])`.
  -- The list `r` has the first `n` elements of the list `s`, and the list `rest` the others.
  pub record SplitsItems (n : ℕ) (s r rest : List T) : Type 0 where
    pub front : KeepsFrontItems n s r
    pub part : rest ≡ drop n s
    pub part_distinct : IsDistinct eq rest
    -- What queries find, how many elements there are, and that additions of the part undo the split.
    pub part_matches : (test : T → Bool) → list_any test s ≡ (list_any test r || list_any test rest)
    pub len : (length r ≡ n) × (length r + length rest ≡ length s)
    pub joined : adds eq r rest ≡ s
