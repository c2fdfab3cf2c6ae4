-- What it means that a list, a pair or an option is a clone of another, and that a clone cannot fail. In the examples,
-- `copy x y` says that `y` is `x`.
use Rattle.std.specs.{Prelude.{◌≡◌, List, None, Option, Some, ⊤}, List.AllZip}
use Rattle.std.specs.declared.clone.Clone as clone

-- Example: `IsPairClone copy copy (j, a) (j, a)`; `¬ (IsPairClone copy copy (Some j, a) (None, a))`.
-- The second pair has a clone of the key and a clone of the value of the first.
abbrev pub IsPairClone : {K V : Type 0} → (K → K → Type 0) → (V → V → Type 0) → K × V → K × V → Type 0
IsPairClone key_clone value_clone p q = key_clone p.0 q.0 × value_clone p.1 q.1

-- Example: true of the clones of numbers.
-- Each clone is the same as its original.
abbrev pub ClonesAreSame : {T : Type 0} → (T → T → Type 0) → Type 0
ClonesAreSame is_clone = (x y : _) → is_clone x y → y ≡ x

-- Example: `AreClones copy [a, b] [a, b]`; `¬ (AreClones copy [a] [])`.
-- At each index, the second list holds a clone of what the first list holds.
abbrev pub AreClones : {T : Type 0} → (T → T → Type 0) → List T → List T → Type 0
AreClones is_clone l m = AllZip is_clone l m

-- Example: `ArePairClones copy copy [(j, a), (k, b)] [(j, a), (k, b)]`.
-- At each index, the second list has clones of the key and of the value of the pair of the first list.
abbrev pub ArePairClones : {K V : Type 0} → (K → K → Type 0) → (V → V → Type 0) → List (K × V) → List (K × V) → Type 0
ArePairClones key_clone value_clone l m = AreClones (IsPairClone key_clone value_clone) l m

-- Example: `IsCloneOf copy (Some a) (Some a)`; `¬ (IsCloneOf copy (Some a) None)`.
-- Both options are none, or the second holds a clone of what the first holds.
abbrev pub IsCloneOf : {T : Type 0} → (T → T → Type 0) → Option T → Option T → Type 0
IsCloneOf is_clone None None = ⊤
IsCloneOf is_clone None (Some y) = ⊥
IsCloneOf is_clone (Some x) None = ⊥
IsCloneOf is_clone (Some x) (Some y) = is_clone x y

-- Example: by `deref_pair`, references to two numbers.
-- The clones of the key and of the value of a pair, which is what `view` sees in `item`, cannot fail.
abbrev pub ClonesSucceed : {K V A : Type 0} → clone.Ghosts K → clone.Ghosts V → (A → K × V) → A → Type 0
ClonesSucceed keys values view item = keys.is_infallible (view item).0 × values.is_infallible (view item).1
