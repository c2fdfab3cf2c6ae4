-- What the insertion of one element leaves of a set, one record for each kind of insertion. The first field is the whole
-- list, and the others follow from it. `eq` is the `==` of the elements. In the examples, `1x` and `1y` are elements that
-- `eq` calls equal, and are not the same.
use Rattle.std.specs.List.{IsDistinct, list_any}
use Rattle.std.specs.Prelude.{◌≡◌, Bool, IsTrue, ◌++◌, ◌∷◌, ◌+◌, ◌||◌, ℕ, List, [], None, Some, false, if◌then◌else◌, length, not, position, slice_get, true}
use Rattle.std.specs.Set.{is_member}
use Rattle.vecmap_base.specs.{Items.{add, item_index, put_item}, Lookups.UpdatesMember}
use Rattle.vecmap_set.specs.{SetContents.{Appends, Contents}, SetIndices.{FindsAt, KeepsItemIndices, KeepsMatchIndices}}

-- Example: a test whether a text has a given length.
-- The test `f` has the same result at equal elements.
abbrev pub AgreesOnEquals : {T : Type 0} → (T → T → Bool) → (T → Bool) → Type 0
AgreesOnEquals {T} eq f = (x y : T) → IsTrue (eq x y) → f y ≡ f x

module _ {T : Type 0} where
  -- Example: `AppendsItem [a] b [a, b]`; `¬ (AppendsItem [a] b [a])`.
  -- The list `r` is the list `s` with the element `x` appended.
  pub record AppendsItem (s : List T) (x : T) (r : List T) : Type 0 where
    pub elements : r ≡ s ++ x ∷ []
    -- For which tests an element passes, and where the new element is.
    pub any : (f : T → Bool) → list_any f r ≡ (f x || list_any f s)
    pub at : slice_get r (length s) ≡ Some x

module _ {T : Type 0} (eq : T → T → Bool) where
  -- Example: `TellsIfAdded nat_eq (set_of [1] 2) 2 (set_of [1, 2] 2) true`.
  -- Example: `¬ (TellsIfAdded nat_eq (set_of [1] 2) 1 (set_of [1] 2) true)`.
  -- Example: `¬ (TellsIfAdded nat_eq (set_of [1] 2) 1 (set_of [] 2) false)`.
  -- The result of an insertion of `x` says whether `x` is new. If an equal element is present, nothing has changed.
  pub record TellsIfAdded (old : Contents T) (x : T) (new : Contents T) (is_new : Bool) : Type 0 where
    pub added : is_new ≡ not (is_member eq old.elements x)
    pub unchanged : IsTrue (is_member eq old.elements x) → new ≡ old

  -- Example: `AddsItem eq [1x] 2x [1x, 2x]`; `AddsItem eq [1x] 1y [1x]`; `¬ (AddsItem eq [1x] 1y [1x, 1y])`.
  -- The list `r` is the list `s` after an insertion of `x`: an equal element stays, and a new one is appended.
  pub record AddsItem (s : List T) (x : T) (r : List T) : Type 0 where
    pub elements : r ≡ add eq s x
    pub distinct : IsDistinct eq r
    -- What queries find, and for which tests an element passes, if they do not tell equal elements apart.
    pub updates : UpdatesMember eq (eq x) s r true
    pub any : (f : T → Bool) → AgreesOnEquals eq f → list_any f r ≡ (f x || list_any f s)
    -- Where a new element is, how many there are, and where the old ones are.
    pub appended : IsTrue (not (is_member eq s x)) → r ≡ s ++ x ∷ []
    pub index : is_member eq s x ≡ false → item_index eq r x ≡ Some (length s)
    pub len : length r ≡ length s + (if not (is_member eq s x) then 1 else 0)
    pub indices : KeepsMatchIndices s r

  -- Example: `PutsItem eq [1x] 1y [1y]`; `¬ (PutsItem eq [1x] 1y [1x, 1y])`.
  -- The list `r` is the list `s` after an insertion of `x` that replaces an equal element; a new one is appended.
  pub record PutsItem (s : List T) (x : T) (r : List T) : Type 0 where
    pub elements : r ≡ put_item eq s x
    pub distinct : IsDistinct eq r
    -- What queries find.
    pub updates : UpdatesMember eq (eq x) s r true
    -- Where a new element is, how many there are, and where the old ones are.
    pub appended : is_member eq s x ≡ false → r ≡ s ++ x ∷ []
    pub index : is_member eq s x ≡ false → item_index eq r x ≡ Some (length s)
    pub len : length r ≡ length s + (if is_member eq s x then 0 else 1)
    pub indices : KeepsItemIndices eq s r

  -- Example: `AddsItemBy nat_eq (nat_eq 2) [1] [1, 2]`; `¬ (AddsItemBy nat_eq (nat_eq 2) [1] [1])`.
  -- The list `r` is the list `s` if an element passes the test, or else `s` with such an element appended.
  pub record AddsItemBy (test : T → Bool) (s r : List T) : Type 0 where
    pub elements : (x : T) × IsTrue (test x) × (r ≡ (if list_any test s then s else s ++ x ∷ []))
    pub distinct : IsDistinct eq r
    -- What queries find, how many elements there are, and where the old ones are.
    pub updates : UpdatesMember eq test s r true
    pub len : length r ≡ length s + (if not (list_any test s) then 1 else 0)
    pub indices : KeepsMatchIndices s r

  -- Example: `FindsOrAppends nat_eq (nat_eq 2) (copy 2) (set_of [1] 1) (set_of [1, 2] 4) 1`.
  -- Example: `¬ (FindsOrAppends nat_eq (nat_eq 2) (copy 2) (set_of [1] 1) (set_of [1] 1) 0)`.
  -- An element that the test matches was present, and nothing has changed, or one that was made was appended. It is at `i`.
  pub record FindsOrAppends (test : T → Bool) (made : T → Type 0) (old new : Contents T) (i : ℕ) : Type 0 where
    pub insertion : AddsItemBy test old.elements new.elements
    pub at : FindsAt test new.elements i
    pub appended : position test old.elements ≡ None → Appends made old new
