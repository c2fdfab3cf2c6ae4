-- Runs of the lazy iterators, and bounds of the number of elements that they have left.
use Rattle.std.proofs.Common.{◌≡◌, ℕ, ◌<◌, ◌≤◌, ◌+◌, ◌^◌, length-append, Bool, List, Option, None, Some, ap, length, not, arith, refl}
use Rattle.std.proofs.{lemmas.List.Filters.length-filter_both, iter.runs.Sources.{from_front, from_back}}
use Rattle.std.specs.{Borrow.Bor, Iterator.{UpTo, YieldsFirstRef, YieldsLastRef, at_most}, List.filter, Option.{IfSome, SomeIff}}
use Rattle.std.specs.Iterator.Runs.{YieldsRefsInOrder, YieldsRefsInReverse}
use Rattle.vecmap_set.specs.Lazy.{ExcludesAll, ExcludesFirst, ExcludesLast, Filtered, JoinsAll, JoinsFirst, JoinsLast, Parts, symmetric_parts, symmetric_rest, union_parts, union_rest}

module _ {S T : Type 0} (next next_back : S → Option (Bor T) → S → Type 0) (rest : S → List T) where
  -- Repeated calls return what is left, in order or in reverse, if each call takes the first or the last of it.
  pub refs_run : ((s : S) (r : Option (Bor T)) (t : S) → next s r t → YieldsFirstRef rest s r t) → ((s : S) (r : Option (Bor T)) (t : S) → next_back s r t → YieldsLastRef rest s r t)
      → YieldsRefsInOrder next rest × YieldsRefsInReverse next_back rest
  refs_run first last =
      (from_front next (λ y. y.now) rest (λ s t h. ap length (first s None t h).0) (λ s x t h. first s (Some x) t h), from_back next_back (λ y. y.now) rest (λ s t h. ap length (last s None t h).0) (λ s x t h. last s (Some x) t h))

-- No more elements are kept than the list has.
pub length_filter : {T : Type 0} (p : T → Bool) (xs : List T) → length (filter p xs) ≤ length xs
length_filter p xs = omega (arith, length-filter_both p (λ x. not (p x)) (λ x. refl) xs)

-- The same for two parts.
pub length_union_rest : {T : Type 0} (eq : T → T → Bool) (s : Parts (List T) (Filtered T)) → length (union_rest eq s) ≤ length s.first + length s.second.ahead
length_union_rest eq s = grind (arith, length-append, length_filter)

pub length_symmetric_rest : {T : Type 0} (eq : T → T → Bool) (s : Parts (Filtered T) (Filtered T)) → length (symmetric_rest eq s) ≤ length s.first.ahead + length s.second.ahead
length_symmetric_rest eq s = grind (arith, length-append, length_filter)

-- What `union` and `symmetric_difference` borrow. Both parts fit a `usize` together if each has fewer items than half
-- of its values.
pub joins_all : {T : Type 0} (eq : T → T → Bool) (s : Parts (List T) (Filtered T)) (a b : List T) → s ≡ union_parts a b → length a < 2 ^ 63 → length b < 2 ^ 63 → JoinsAll eq (union_parts a b) s
joins_all eq s a b made small others =
    let runs = refs_run (JoinsFirst eq) (JoinsLast eq) (union_rest eq) (λ s r t h. h.0) (λ s r t h. h.0) in
    (made, omega (arith, length_union_rest eq s, ap (λ p. length p.first) made, ap (λ p. length p.second.ahead) made), runs.0, runs.1)

pub excludes_all : {T : Type 0} (eq : T → T → Bool) (s : Parts (Filtered T) (Filtered T)) (a b : List T) → s ≡ symmetric_parts a b → length a < 2 ^ 63 → length b < 2 ^ 63 → ExcludesAll eq (symmetric_parts a b) s
excludes_all eq s a b made small others =
    let runs = refs_run (ExcludesFirst eq) (ExcludesLast eq) (symmetric_rest eq) (λ s r t h. h.0) (λ s r t h. h.0) in
    (made, omega (arith, length_symmetric_rest eq s, ap (λ p. length p.first.ahead) made, ap (λ p. length p.second.ahead) made), runs.0, runs.1)

-- A number that is at most the sum of two bounds is within that sum, if the sum fits a `usize`.
pub within_sum : (r : Option ℕ) (P : Type 0) (sum n : ℕ) → SomeIff r P sum → n ≤ sum → IfSome r (UpTo (at_most n))
within_sum None P sum n h short = tt
within_sum (Some x) P sum n h short = (tt, omega (arith, h.1))
