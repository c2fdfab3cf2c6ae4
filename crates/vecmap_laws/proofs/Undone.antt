-- Changes that are taken back: the list is what it was, in its order.
use Rattle.std.proofs.Common.{◌≡◌, ◌∙◌, ◌<◌, ℕ, Bool, List, [], ◌∷◌, None, Some, ap, arith, false, get_or, if◌then◌else◌, insert, length, nat_eq, refl, remove, set, slice_get, sym, true}
use Rattle.std.proofs.lemmas.{List.set-get_or, Option.get_or_from_slice_get, Option.slice_get-get_or, Option.slice_get_within}
use Rattle.std.specs.{Cmp.{IsEquivalence, nat_eq_equiv}, Option.option_map_or}
use Rattle.vecmap_base.proofs.MoveLemmas.{moved_item, moved_removed}
use Rattle.vecmap_base.specs.{Items.moved, Pairs.{HasDistinctKeys, lookup, put, put_at, without_key}}
use Rattle.vecmap_laws.proofs.{AfterPuts.put_same, Inserted.{insert_where_removed, put_at_moved}, OtherPairs.{without_not_found, without_put_at}}
use Rattle.vecmap_laws.proofs.PutLemmas.{put_put}

-- An item that has moved, moved back.
pub moved_back : {X : Type 0} (xs : List X) (from to : ℕ) → from < length xs → to < length xs → moved (moved xs from to) to from ≡ xs
moved_back [] from to from_in to_in = absurd (omega arith)
moved_back (x ∷ xs) from to from_in to_in =
    let all = x ∷ xs in
    let item = get_or all from x in
    let at : slice_get all from ≡ Some item = slice_get-get_or all from x from_in in
    let there = moved all from to in
    let is : there ≡ insert (remove all from) to item = ap (λ o. option_map_or (λ y. insert (remove all from) to y) o all) at in
    let found : slice_get there to ≡ Some item = moved_item all there from to refl from_in to_in ∙ at in
    ap (λ o. option_map_or (λ y. insert (remove there to) from y) o there) found
    ∙ ap (λ m. insert m from item) (moved_removed all there from to item from_in to_in is)
    ∙ insert_where_removed all from item from_in
    ∙ set-get_or all from x

module _ {K V : Type 0} (eq : K → K → Bool) (o : IsEquivalence eq) where
  -- The removal of a key that was new.
  pub without_new : (l : List (K × V)) (k : K) (v : V) → lookup eq l k ≡ None → without_key eq (put eq l k v) k ≡ l
  without_new [] k v none = ap (λ b. if b then [] else (k, v) ∷ []) (o.refl k)
  without_new (p ∷ ps) k v none = by (eq k p.0) refl none (without_new ps k v)
    where
      by : (b : Bool) → eq k p.0 ≡ b → (if b then Some p.1 else lookup eq ps k) ≡ None → (lookup eq ps k ≡ None → without_key eq (put eq ps k v) k ≡ ps) → without_key eq (if b then (p.0, v) ∷ ps else p ∷ put eq ps k v) k ≡ p ∷ ps
      by true e none more = absurd (cc)
      by false e none more = ap (λ b. if b then put eq ps k v else p ∷ without_key eq (put eq ps k v) k) e ∙ ap (λ m. p ∷ m) (more none)

  -- The old value, inserted again.
  pub put_old_back : (l : List (K × V)) (k : K) (v w : V) → lookup eq l k ≡ Some w → put eq (put eq l k v) k w ≡ l
  put_old_back l k v w found = put_put eq o l k v w ∙ put_same eq l k w found

  -- A pair that is removed by its index, placed where it was.
  pub placed_back : (l : List (K × V)) (i : ℕ) (k : K) (v : V) → HasDistinctKeys eq l → slice_get l i ≡ Some (k, v) → put_at eq (remove l i) i k v ≡ l
  placed_back l i k v d stored =
      put_at_moved eq o l d i k v stored i
      ∙ insert_where_removed l i (k, v) (slice_get_within l i (k, v) stored)
      ∙ ap (λ p. set l i p) (sym (get_or_from_slice_get l i (k, v) (k, v) stored))
      ∙ set-get_or l i (k, v)

  -- The removal of a new key that was placed at an index.
  pub without_placed : (l : List (K × V)) (i : ℕ) (k : K) (v : V) → HasDistinctKeys eq l → lookup eq l k ≡ None → without_key eq (put_at eq l i k v) k ≡ l
  without_placed l i k v d none = without_put_at eq o l d k i v ∙ without_not_found eq l k none

pub ruleset undone = (without_new, put_old_back, placed_back, without_placed, moved_back)

-- The same at numbers.
module _ {V : Type 0} (l : List (ℕ × V)) where
  pub without_new_number : (k : ℕ) (v : V) → lookup nat_eq l k ≡ None → without_key nat_eq (put nat_eq l k v) k ≡ l
  without_new_number = without_new nat_eq nat_eq_equiv l

  pub old_put_back_at_number : (k : ℕ) (v w : V) → lookup nat_eq l k ≡ Some w → put nat_eq (put nat_eq l k v) k w ≡ l
  old_put_back_at_number = put_old_back nat_eq nat_eq_equiv l

  pub number_placed_back : (i k : ℕ) (v : V) → HasDistinctKeys nat_eq l → slice_get l i ≡ Some (k, v) → put_at nat_eq (remove l i) i k v ≡ l
  number_placed_back = placed_back nat_eq nat_eq_equiv l

  pub without_placed_number : (i k : ℕ) (v : V) → HasDistinctKeys nat_eq l → lookup nat_eq l k ≡ None → without_key nat_eq (put_at nat_eq l i k v) k ≡ l
  without_placed_number = without_placed nat_eq nat_eq_equiv l

pub ruleset undone_at_numbers = (without_new_number, old_put_back_at_number, number_placed_back, without_placed_number, moved_back)
