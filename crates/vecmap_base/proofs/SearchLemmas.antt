-- What a binary search has found so far: about the item at its base, and about the items above the part that is left.
use mir.Val.{bool_byte}
use Rattle.std.proofs.Math.Nat.{pow-suc}
use Rattle.std.proofs.Common.{◌≡◌, ℕ, zero, suc, ◌+◌, ◌*◌, ◌/◌, ◌^◌, ◌<◌, ◌≤◌, Bool, true, false, List, length, get_or, HoldsAt, if◌then◌else◌, ap, sym, ◌∙◌, arith, refl, subst, true≢false}
use Rattle.std.specs.{List.AllWithin, List.Sorted.{IsNonDecreasingBy, IsPartitionPoint, IsPartitionedBy}, Ordering.{is_le, ordering_index}}
use Rattle.std.specs.{declared.cmp.Ordering.Ordering, declared.cmp.Ordering.TheVariants.{Less, Equal, Greater}}
use Rattle.vecmap_base.specs.FnCalls.{side}

-- Nothing is below `Less`, or above `Greater`.
is_less : (o : Ordering) → ordering_index o ≤ ordering_index Less → o ≡ Less
is_less Less h = refl
is_less Equal h = absurd (omega arith)
is_less Greater h = absurd (omega arith)

is_greater : (o : Ordering) → ordering_index Greater ≤ ordering_index o → o ≡ Greater
is_greater Less h = absurd (omega arith)
is_greater Equal h = absurd (omega arith)
is_greater Greater h = refl

greater : (o : Ordering) → is_le o ≡ false → o ≡ Greater
greater Less h = absurd (true≢false h)
greater Equal h = absurd (true≢false h)
greater Greater h = refl

pub no_step_past : (half step : ℕ) (is_up : Bool) → step ≡ (if is_up then half else 0) → step ≤ half
no_step_past half step true by = omega (arith, by)
no_step_past half step false by = omega (arith, by)

-- The number that `usize::from` makes of a condition.
pub one_if : (one : ℕ) (is_up : Bool) → one ≡ bool_byte is_up → one ≡ (if is_up then 1 else 0)
one_if one true by = by
one_if one false by = by

-- The product of `n` and this number.
pub product : (n one : ℕ) (is_up : Bool) → one ≡ bool_byte is_up → n * one ≡ (if is_up then n else 0)
product n one true by = ap (λ k. n * k) by ∙ omega arith
product n one false by = ap (λ k. n * k) by ∙ omega arith

pub no_three_past : (n step : ℕ) (a b c : Bool) → step ≡ (if a then n else 0) + (if b then n else 0) + (if c then n else 0) → step ≤ 3 * n
no_three_past n step a b c by = grind (arith, no_step_past)

-- Half of a power of two, which is more than 1, is a power of two.
pub halved : (size k : ℕ) → size ≡ 2 ^ k → 1 < size → ((j : ℕ) × (size / 2 ≡ 2 ^ j)) × (size ≡ size / 2 + size / 2)
halved size zero e more = grind (arith, pow-suc)
halved size (suc k) e more = grind (arith, pow-suc)

pub quartered : (size k : ℕ) → size ≡ 2 ^ k → 4 ≤ size → ((j : ℕ) × (size / 4 ≡ 2 ^ j)) × (size ≡ 4 * (size / 4))
quartered size zero e more = grind (arith, pow-suc)
quartered size (suc zero) e more = grind (arith, pow-suc)
quartered size (suc (suc k)) e more = grind (arith, pow-suc)

module _ {X : Type 0} (ord : X → Ordering) (xs : List X) where
  -- If the items ascend, the item at `base` is not greater, unless `base` is 0, and those from `base + size` on are
  -- greater.
  pub record Narrowed (base size : ℕ) : Type 0 where
    pub low : IsNonDecreasingBy (λ y. ordering_index (ord y)) xs → 0 < base → HoldsAt (λ y. is_le (ord y) ≡ true) xs base
    pub high : IsNonDecreasingBy (λ y. ordering_index (ord y)) xs → AllWithin (λ y. ord y ≡ Greater) xs (base + size) (length xs)

  all_greater : (i from : ℕ) → i ≤ from → HoldsAt (λ y. ord y ≡ Greater) xs i → IsNonDecreasingBy (λ y. ordering_index (ord y)) xs → AllWithin (λ y. ord y ≡ Greater) xs from (length xs)
  all_greater i from le at up k d a b = is_greater _ (subst (λ (o : Ordering). ordering_index o ≤ ordering_index (ord (get_or xs k d))) (at d) (up i k d (omega arith) b))

  -- At the start, the whole list is left.
  pub narrowed_none : (left : ℕ) → length xs ≤ left → Narrowed 0 left
  narrowed_none left all = record { low = λ up more. absurd (omega arith); high = λ up k d a b. absurd (omega arith) }

  -- If the item in the middle is not greater, the search continues from it.
  pub narrowed_up : (base size middle left : ℕ) → base + size ≤ middle + left → HoldsAt (λ y. is_le (ord y) ≡ true) xs middle → Narrowed base size → Narrowed middle left
  narrowed_up base size middle left le at n = record { low = λ up more. at; high = λ up k d a b. n.high up k d (omega arith) b }

  -- If the item in the middle is greater, the items after it are greater too.
  pub narrowed_down : (base size middle left : ℕ) → middle ≤ base + left → HoldsAt (λ y. is_le (ord y) ≡ false) xs middle → Narrowed base size → Narrowed base left
  narrowed_down base size middle left le at n = record { low = n.low; high = all_greater middle (base + left) le (λ d. greater _ (at d)) }

  -- The search continues from the item in the middle if this item is not greater, and else from `base`.
  pub narrowed_on : (base size half left step : ℕ) (is_up : Bool) → half ≤ left → size ≤ half + left → step ≡ (if is_up then half else 0) → HoldsAt (λ y. is_le (ord y) ≡ is_up) xs (base + half) → Narrowed base size → Narrowed (base + step) left
  narrowed_on base size half left step true low within by at n = subst (λ i. Narrowed i left) (ap (λ k. base + k) (sym by)) (narrowed_up base size (base + half) left (omega arith) at n)
  narrowed_on base size half left step false low within by at n = subst (λ i. Narrowed i left) (omega (arith, by)) (narrowed_down base size (base + half) left (omega arith) at n)

  -- No item after one that is greater is not greater.
  falls : (i j : ℕ) (d : X) → i ≤ j → j < length xs → HoldsAt (λ y. is_le (ord y) ≡ false) xs i → HoldsAt (λ y. is_le (ord y) ≡ true) xs j → IsNonDecreasingBy (λ y. ordering_index (ord y)) xs → ⊥
  falls i j d order within high_at low_at up = true≢false (sym (low_at d) ∙ ap is_le (all_greater i j order (λ e. greater _ (high_at e)) up j d (omega arith) within))

  apart : (i j at left : ℕ) → i ≤ j → j < length xs → HoldsAt (λ y. is_le (ord y) ≡ false) xs i → HoldsAt (λ y. is_le (ord y) ≡ true) xs j → Narrowed at left
  apart i j at left order within high_at low_at = record { low = λ up more d. absurd (falls i j d order within high_at low_at up); high = λ up k d a b. absurd (falls i j d order within high_at low_at up) }

  between_two : (i j left : ℕ) → j ≤ i + left → HoldsAt (λ y. is_le (ord y) ≡ true) xs i → HoldsAt (λ y. is_le (ord y) ≡ false) xs j → Narrowed i left
  between_two i j left le low_at high_at = record { low = λ up more. low_at; high = all_greater j (i + left) le (λ d. greater _ (high_at d)) }

  -- The search continues from the last of three items that is not greater, or from `base`.
  pub narrowed_quarter : (base size quarter step : ℕ) (a b c : Bool) → size ≡ 4 * quarter → base + size ≤ length xs → 0 < quarter → step ≡ (if a then quarter else 0) + (if b then quarter else 0) + (if c then quarter else 0)
      → HoldsAt (λ y. is_le (ord y) ≡ a) xs (base + quarter) → HoldsAt (λ y. is_le (ord y) ≡ b) xs (base + 2 * quarter) → HoldsAt (λ y. is_le (ord y) ≡ c) xs (base + 3 * quarter) → Narrowed base size → Narrowed (base + step) quarter
  narrowed_quarter base size quarter step true true true four within more by p q r n =
      subst (λ i. Narrowed i quarter) (omega (arith, by)) (narrowed_up base size (base + 3 * quarter) quarter (omega (arith, four)) r n)
  narrowed_quarter base size quarter step true true false four within more by p q r n =
      subst (λ i. Narrowed i quarter) (omega (arith, by)) (between_two (base + 2 * quarter) (base + 3 * quarter) quarter (omega arith) q r)
  narrowed_quarter base size quarter step true false true four within more by p q r n = apart (base + 2 * quarter) (base + 3 * quarter) (base + step) quarter (omega arith) (omega (arith, four)) q r
  narrowed_quarter base size quarter step true false false four within more by p q r n =
      subst (λ i. Narrowed i quarter) (omega (arith, by)) (between_two (base + quarter) (base + 2 * quarter) quarter (omega arith) p q)
  narrowed_quarter base size quarter step false true c four within more by p q r n = apart (base + quarter) (base + 2 * quarter) (base + step) quarter (omega arith) (omega (arith, four)) p q
  narrowed_quarter base size quarter step false false true four within more by p q r n = apart (base + 2 * quarter) (base + 3 * quarter) (base + step) quarter (omega arith) (omega (arith, four)) q r
  narrowed_quarter base size quarter step false false false four within more by p q r n =
      subst (λ i. Narrowed i quarter) (omega (arith, by)) (narrowed_down base size (base + quarter) quarter (omega arith) p n)

  -- The search begins at the item at `start` if this item is not greater, and else at the first.
  pub narrowed_first : (start left step : ℕ) (is_up : Bool) → start ≤ left → length xs ≤ start + left → step ≡ (if is_up then start else 0) → HoldsAt (λ y. is_le (ord y) ≡ is_up) xs start → Narrowed step left
  narrowed_first start left step true low within by at = subst (λ i. Narrowed i left) (sym by) (narrowed_up 0 (length xs) start left (omega arith) at (narrowed_none (length xs) (omega arith)))
  narrowed_first start left step false low within by at = subst (λ i. Narrowed i left) (sym by) (narrowed_down 0 (length xs) start left (omega arith) at (narrowed_none (length xs) (omega arith)))

  -- If the one item that is left is less, the index after it separates the lesser items from the greater ones.
  pub narrowed_less : (base size : ℕ) → size ≤ 1 → base < length xs → HoldsAt (λ y. ord y ≡ Less) xs base → Narrowed base size → IsNonDecreasingBy (λ y. ordering_index (ord y)) xs → IsPartitionPoint (λ y. ord y ≡ Less) (λ y. ord y ≡ Greater) xs (base + 1)
  narrowed_less base size one within at n up = (
    λ k d a b. is_less _ (subst (λ (o : Ordering). ordering_index (ord (get_or xs k d)) ≤ ordering_index o) (at d) (up k base d (omega arith) within)),
    λ k d a b. n.high up k d (omega arith) b,
  )

  -- If the one item that is left is greater, it is the first item.
  pub narrowed_greater : (base size : ℕ) → HoldsAt (λ y. ord y ≡ Greater) xs base → Narrowed base size → IsNonDecreasingBy (λ y. ordering_index (ord y)) xs → IsPartitionPoint (λ y. ord y ≡ Less) (λ y. ord y ≡ Greater) xs base
  narrowed_greater base size at n up = (
    λ k d a b. absurd (true≢false (sym (n.low up (omega arith) d) ∙ ap is_le (at d))),
    all_greater base base (omega arith) at up,
  )

passing : (b : Bool) → side b ≡ Less → b ≡ true
passing true h = refl
passing false h = cc

failing : (b : Bool) → side b ≡ Greater → b ≡ false
failing true h = cc
failing false h = refl

neither : (b : Bool) → side b ≡ Equal → ⊥
neither true h = cc
neither false h = cc

sides_rise : (a b : Bool) → (b ≡ true → a ≡ true) → ordering_index (side a) ≤ ordering_index (side b)
sides_rise true b h = omega arith
sides_rise false true h = absurd (true≢false (sym (h refl)))
sides_rise false false h = omega arith

module _ {X : Type 0} (p : X → Bool) (xs : List X) where
  -- No item is equal.
  pub parted_ok : (i : ℕ) → HoldsAt (λ y. side (p y) ≡ Equal) xs i → IsPartitionPoint (λ y. p y ≡ true) (λ y. p y ≡ false) xs i
  parted_ok i at = (λ k d a b. absurd (neither _ (at d)), λ k d a b. absurd (neither _ (at d)))

  pub parted_err : (i : ℕ) → (IsNonDecreasingBy (λ y. ordering_index (side (p y))) xs → IsPartitionPoint (λ y. side (p y) ≡ Less) (λ y. side (p y) ≡ Greater) xs i) → IsPartitionedBy p xs → IsPartitionPoint (λ y. p y ≡ true) (λ y. p y ≡ false) xs i
  parted_err i found first = grind (arith, sides_rise, passing, failing)
