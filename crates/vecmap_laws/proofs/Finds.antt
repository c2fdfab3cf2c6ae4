-- What lookups find after each call, as equations that `grind` applies from left to right. `Rules` has lists of them.
use Rattle.std.specs.{Cmp.IsEquivalence, List.{IsDistinct, Sorted.{IsPermutation, SwapsInRange, apply_swaps}}}
use Rattle.std.specs.{Prelude.nat_lt, Set.is_member}
use Rattle.std.proofs.Common.{Bool, List, None, Option, Some, [], ap, arith, drop, false, if◌then◌else◌, is_some, length, not, refl, remove, reverse, suc, swap, sym, take, true, zero, ℕ, ◌&&◌, ◌<◌, ◌∙◌, ◌∷◌, ◌≡◌}
use Rattle.std.proofs.lemmas.{Bool.Decides.nat_tests, List.Sorted.IsPermutation-reverse}
use Rattle.vecmap_base.specs.Items.{swap_without, swap_without_item, without_item}
use Rattle.vecmap_base.specs.Pairs.{HasDistinctKeys, index_of, index_or_length, lookup, put_at, put_key, swap_without_key, without_key}
use Rattle.vecmap_base.proofs.PairsLemmas.{LookupsAfterChanges.{distinct_keys_rearranged, lookup_by_rearranged}, ManyPairs.lookup_by_take}
use Rattle.vecmap_base.proofs.RemovalLemmas.{swap_removes_by}
use Rattle.vecmap_laws.proofs.{AfterPuts.{is_some_lookup, lookup_put_any, lookup_put_key, index_or_length_cons}, DistinctKeys.distinct_keys_without}
use Rattle.vecmap_laws.proofs.{Inserted.lookup_put_at, LookupLemmas.{lookup_congr, head_has_no_value, rest_is_distinct}, OneMore.lookup_cons}
use Rattle.vecmap_laws.proofs.TakenOut.{is_member_by_test, remove_leaves, swap_leaves}

module _ {K V : Type 0} (eq : K → K → Bool) (o : IsEquivalence eq) where
  -- If all keys are distinct, lookups do not depend on the order.
  pub lookup_rearranged : (l m : List (K × V)) → IsPermutation l m → HasDistinctKeys eq l → (q : K) → lookup eq m q ≡ lookup eq l q
  lookup_rearranged l m moved d q = lookup_by_rearranged eq o (eq q) (o.congr q) l m moved d

  pub lookup_swap_without_key : (l : List (K × V)) (k q : K) → HasDistinctKeys eq l → lookup eq (swap_without_key eq l k) q ≡ (if eq k q then None else lookup eq l q)
  lookup_swap_without_key l k q d = ((swap_removes_by (eq k) l eq o (o.congr k) (swap_without_key eq l k) refl).updates d).lookups q

  -- A permutation is a list of swaps, so these two are for sorts.
  pub lookup_swapped : (l : List (K × V)) (moves : List (ℕ × ℕ)) (q : K) → SwapsInRange (length l) moves → HasDistinctKeys eq l → lookup eq (apply_swaps l moves) q ≡ lookup eq l q
  lookup_swapped l moves q h d = lookup_rearranged l (apply_swaps l moves) record { moves = moves; below = h; is = refl } d q

  pub distinct_swapped : (l : List (K × V)) (moves : List (ℕ × ℕ)) → SwapsInRange (length l) moves → HasDistinctKeys eq l → HasDistinctKeys eq (apply_swaps l moves)
  distinct_swapped l moves h d = distinct_keys_rearranged eq o l (apply_swaps l moves) record { moves = moves; below = h; is = refl } d

  pub lookup_swap : (l : List (K × V)) (i j : ℕ) (q : K) → i < length l → j < length l → HasDistinctKeys eq l → lookup eq (swap l i j) q ≡ lookup eq l q
  lookup_swap l i j q h k d = lookup_swapped l ((i, j) ∷ []) q (h, k, tt) d

  pub lookup_reverse : (l : List (K × V)) (q : K) → HasDistinctKeys eq l → lookup eq (reverse l) q ≡ lookup eq l q
  lookup_reverse l q d = lookup_rearranged l (reverse l) (IsPermutation-reverse l) d q

  pub distinct_keys_reverse : (l : List (K × V)) → HasDistinctKeys eq l → HasDistinctKeys eq (reverse l)
  distinct_keys_reverse l d = distinct_keys_rearranged eq o l (reverse l) (IsPermutation-reverse l) d

  pub lookup_put_key_any : (l : List (K × V)) (k : K) (v : V) (q : K) → lookup eq (put_key eq l k v) q ≡ (if eq k q then Some v else lookup eq l q)
  lookup_put_key_any l k v q = lookup_put_key eq o l k v q ∙ lookup_put_any eq o l k v q

  pub lookup_put_at_any : (l : List (K × V)) (i : ℕ) (k : K) (v : V) (q : K) → HasDistinctKeys eq l → lookup eq (put_at eq l i k v) q ≡ (if eq k q then Some v else lookup eq l q)
  lookup_put_at_any l i k v q d = lookup_put_at eq o l i k v d q

  pub distinct_without_key : (l : List (K × V)) (k : K) → HasDistinctKeys eq l → HasDistinctKeys eq (without_key eq l k)
  distinct_without_key l k d = distinct_keys_without eq (eq k) l d

same : {X : Type 0} (b : Bool) (x : X) → x ≡ (if b then x else x)
same true x = refl
same false x = refl

all_past : {V : Type 0} (i : ℕ) (f : Option V) → f ≡ (if nat_lt i 0 then None else f)
all_past i f = grind (arith, nat_tests)

-- In the first `n` pairs a key finds its value if its index is below `n`.
pub lookup_take : {K V : Type 0} (eq : K → K → Bool) (l : List (K × V)) (n : ℕ) (q : K) → lookup eq (take n l) q ≡ (if nat_lt (index_or_length eq l q) n then lookup eq l q else None)
lookup_take eq l n q = lookup_by_take (eq q) l n

module _ {K V : Type 0} (eq : K → K → Bool) (o : IsEquivalence eq) where
  -- Behind the first `n` pairs a key finds its value if its index is not below `n`.
  pub lookup_drop : (l : List (K × V)) (n : ℕ) (q : K) → HasDistinctKeys eq l → lookup eq (drop n l) q ≡ (if nat_lt (index_or_length eq l q) n then None else lookup eq l q)
  lookup_drop l zero q d = all_past (index_or_length eq l q) (lookup eq l q)
  lookup_drop [] (suc n) q d = same (nat_lt 0 (suc n)) None
  lookup_drop (p ∷ ps) (suc n) q d = by (eq q p.0) refl (lookup_drop ps n q (rest_is_distinct eq p ps d))
    where
      by : (b : Bool) → eq q p.0 ≡ b → lookup eq (drop n ps) q ≡ (if nat_lt (index_or_length eq ps q) n then None else lookup eq ps q) → lookup eq (drop n ps) q ≡ (if nat_lt (index_or_length eq (p ∷ ps) q) (suc n) then None else lookup eq (p ∷ ps) q)
      by true e h =
          let none : lookup eq ps q ≡ None = lookup_congr eq o ps q p.0 e ∙ head_has_no_value eq p ps d in
          h ∙ ap (λ f. if nat_lt (index_or_length eq ps q) n then None else f) none ∙ sym (same (nat_lt (index_or_length eq ps q) n) None) ∙ dropped (index_or_length eq (p ∷ ps) q) (lookup eq (p ∷ ps) q) (index_or_length_cons p ps eq q ∙ ap (λ b. if b then 0 else suc (index_or_length eq ps q)) e)
        where
          dropped : (i : ℕ) (f : Option V) → i ≡ 0 → None ≡ (if nat_lt i (suc n) then None else f)
          dropped i f z = grind (arith, nat_tests)
      by false e h =
          h ∙ later (index_or_length eq ps q) (lookup eq ps q)
          ∙ sym (λ t. if nat_lt ((index_or_length_cons p ps eq q ∙ ap (λ b. if b then 0 else suc (index_or_length eq ps q)) e) t) (suc n) then None else (lookup_cons eq p ps q ∙ ap (λ b. if b then Some p.1 else lookup eq ps q) e) t)
        where
          later : (i : ℕ) (f : Option V) → (if nat_lt i n then None else f) ≡ (if nat_lt (suc i) (suc n) then None else f)
          later i f = grind (arith, nat_tests)

-- A key is present exactly if a lookup finds it. It rewrites what `contains_key` returns.
pub present : {K V : Type 0} (eq : K → K → Bool) (l : List (K × V)) (q : K) → is_some (index_of eq l q) ≡ is_some (lookup eq l q)
present eq l q = sym (is_some_lookup eq l q)

-- The same of sets.
module _ {T : Type 0} (eq : T → T → Bool) (o : IsEquivalence eq) where
  pub is_member_without : (s : List T) (x y : T) → IsDistinct eq s → is_member eq (without_item eq s x) y ≡ (is_member eq s y && not (eq x y))
  is_member_without s x y d = is_member_by_test remove remove_leaves eq o (eq x) (λ a b e. o.congr x a b e) s d y

  pub is_member_swap_without : (s : List T) (x y : T) → IsDistinct eq s → is_member eq (swap_without_item eq s x) y ≡ (is_member eq s y && not (eq x y))
  is_member_swap_without s x y d = is_member_by_test swap_without swap_leaves eq o (eq x) (λ a b e. o.congr x a b e) s d y
