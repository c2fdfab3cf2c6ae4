-- What a loop knows that writes the items of a list in order, and what a `for` over an iterator knows of the item that
-- it takes: it is in the list, so a lookup finds it. `all` is the list, `xs` what the loop has taken, and `shows` reads
-- an item, as `deref_pair` does.
use Rattle.std.specs.{Cmp.nat_eq_equiv, Iterator.Yields, List.refill, Map.{keys_of, Iter.TakesFirst}, Set.is_member}
use Rattle.std.proofs.Common.{◌≡◌, ℕ, ◌+◌, ◌<◌, List, ◌∷◌, [], ◌++◌, ap, arith, drop, get_or, length, map, set, sym, take, ◌∙◌, Bool, Contains, IsSome, Option, Some, is_some, nat_eq, subst, true}
use Rattle.std.proofs.lemmas.{List.{drop-set-lt, drop_more, map_push, take_at, take_more, take_more_set}, Map.{Entries.length-keys_of, Iter.iter_turn}}
use Rattle.std.proofs.lemmas.{Map.{Made.is_some-lookup, Views.{IsSome-lookup_from_Contains, list_any-from_Contains}}, Option.get_or_from_slice_get}
use Rattle.vecmap_base.{specs.Pairs.{lookup, lookup_by}, proofs.PairsLemmas.AtIndices.found_at}

module _ {K V : Type 0} where
  -- A map whose pairs were written has the keys of what was written, if these are as many.
  pub keys_written : (l m : List (K × V)) → keys_of m ≡ keys_of l → keys_of (refill (length l) l m) ≡ keys_of l
  keys_written l m same = grind (arith, length-keys_of, take_at)

module _ {X : Type 0} (h : X → X) (old now : List X) (i : ℕ) (d : X) where
  -- The first `i` items are written; one more is.
  pub mapped_more : i < length old → length now ≡ length old → (take i now ≡ map h (take i old)) × (drop i now ≡ drop i old) → (take (i + 1) (set now i (h (get_or now i d))) ≡ map h (take (i + 1) old)) × (drop (i + 1) (set now i (h (get_or now i d))) ≡ drop (i + 1) old)
  mapped_more m long so_far =
      let l : i < length now = omega (arith, m, long) in
      let split : get_or now i d ∷ drop (i + 1) now ≡ get_or old i d ∷ drop (i + 1) old = sym (drop_more now i d l) ∙ so_far.1 ∙ drop_more old i d m in
      let item : get_or now i d ≡ get_or old i d = cc in
      let rest : drop (i + 1) now ≡ drop (i + 1) old = cc in
      let written = take_more_set now i (h (get_or now i d)) l in
      let before = take_more old i d m in (
        written ∙ (λ j. so_far.0 j ++ h (item j) ∷ []) ∙ sym (map_push h (take i old) (get_or old i d)) ∙ ap (map h) (sym before),
        drop-set-lt (i + 1) now i (h (get_or now i d)) (omega arith) ∙ rest,
      )

module _ {A X : Type 0} (shows : A → X) (all : List X) (xs : List A) (s t u : List X) (r : Option A) (start : s ≡ all) (y : Yields (TakesFirst shows) s xs t) (x : A) (is : r ≡ Some x) (step : TakesFirst shows t r u) where
  taken : Contains all (shows x)
  taken = let at = iter_turn shows all xs s t u r start y x is step in (length xs, at.0, get_or_from_slice_get all (length xs) (shows x) (shows x) at.1)

module _ {A K V : Type 0} (shows : A → K × V) (all : List (K × V)) (xs : List A) (s t u : List (K × V)) (r : Option A) (start : s ≡ all) (y : Yields (TakesFirst shows) s xs t) (x : A) (is : r ≡ Some x) (step : TakesFirst shows t r u) where
  -- A query that matches the key of the pair finds something.
  pub taken_matches : (test : K → Bool) → test (shows x).0 ≡ true → IsSome (lookup_by test all)
  taken_matches test h = (found_at all (length xs) (shows x).0 (shows x).1 (iter_turn shows all xs s t u r start y x is step).1).present test h

-- The same at numbers.
module _ {A V : Type 0} (shows : A → ℕ × V) (all : List (ℕ × V)) (xs : List A) (s t u : List (ℕ × V)) (r : Option A) (start : s ≡ all) (y : Yields (TakesFirst shows) s xs t) (x : A) (is : r ≡ Some x) (step : TakesFirst shows t r u) where
  pub number_taken : IsSome (lookup nat_eq all (shows x).0)
  number_taken = taken_matches shows all xs s t u r start y x is step (nat_eq (shows x).0) (nat_eq_equiv.refl (shows x).0)

-- An element of a set, a key of a map, or a value.
module _ {A : Type 0} (shows : A → ℕ) (all : List ℕ) (xs : List A) (s t u : List ℕ) (r : Option A) (start : s ≡ all) (y : Yields (TakesFirst shows) s xs t) (x : A) (is : r ≡ Some x) (step : TakesFirst shows t r u) where
  pub element_taken : is_member nat_eq all (shows x) ≡ true
  element_taken = list_any-from_Contains nat_eq_equiv (shows x) all (taken shows all xs s t u r start y x is step)

  pub key_taken : {V : Type 0} (l : List (ℕ × V)) → all ≡ keys_of l → IsSome (lookup nat_eq l (shows x))
  key_taken l e = IsSome-lookup_from_Contains nat_eq_equiv (shows x) l (subst (λ ks. Contains ks (shows x)) e (taken shows all xs s t u r start y x is step))

-- A lookup finds the keys.
pub is_key_of_numbers : {V : Type 0} (l : List (ℕ × V)) (k : ℕ) → is_member nat_eq (keys_of l) k ≡ is_some (lookup nat_eq l k)
is_key_of_numbers l k = sym (is_some-lookup (nat_eq k) l)
