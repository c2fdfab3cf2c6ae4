-- The lemmas of the rulesets at numbers: `grind` sees the `==` of numbers as it computes, so it matches a lemma that is
-- stated of it, and not one of any `==`.
use Rattle.std.specs.{Cmp.nat_eq_equiv, List.IsDistinct, List.Sorted.SwapsInRange, List.Sorted.apply_swaps, Map.keys_of, Option.{option_and_then, option_or}, Set.is_member}
use Rattle.std.proofs.Common.{◌≡◌, ◌∙◌, ◌++◌, ◌∷◌, ◌<◌, ◌&&◌, ◌||◌, not, ℕ, false, List, None, Some, IsTrue, ap, arith, eqb-true, if◌then◌else◌, is_some, take, drop, length, nat_eq, reverse, slice_get, swap, sym}
use Rattle.std.proofs.lemmas.Grind.{common_steps}
use Rattle.std.specs.Prelude.{nat_lt}
use Rattle.vecmap_base.specs.{Equality.has_same_counts, Items.{add, adds, swap_without_item, without_item}}
use Rattle.vecmap_base.specs.Pairs.{HasDistinctKeys, index_of, index_or_length, lookup, put, put_at, put_key, puts, swap_without_key, value_at, with_value, without_key}
use Rattle.vecmap_base.proofs.{ItemsLemmas.Members.is_member_adds, PairsLemmas.{ByIndex.{index_by_is, lookup_by_index}, LookupsAfterChanges.distinct_put}}
use Rattle.vecmap_base.proofs.PairsLemmas.Updates.{distinct_put_key}
use Rattle.vecmap_laws.proofs.AfterPuts.{index_of_without_key, lookup_put_any, lookup_puts_distinct, lookup_without_any}
use Rattle.vecmap_laws.proofs.DistinctKeys.{distinct_keys_swap_without_key, distinct_keys_take, distinct_put_at, distinct_puts, distinct_keys_drop}
use Rattle.vecmap_laws.proofs.Finds.{distinct_keys_reverse, distinct_swapped, distinct_without_key, is_member_swap_without, is_member_without, lookup_drop, lookup_put_at_any, lookup_put_key_any, lookup_reverse, lookup_swap, lookup_swap_without_key, lookup_swapped, lookup_take, present}
use Rattle.vecmap_laws.proofs.{ItemLemmas.is_member_add, LookupLemmas.{lookup_without_key, lookup_without_key_other, absent_among}}
use Rattle.vecmap_laws.proofs.{MapEquality.lookups_of_equal, OtherPairs.{put_back, without_absent}, PutLemmas.{put_put, puts_restore}}
use Rattle.vecmap_laws.proofs.{QueryLemmas.lookup_written_at, TakenOut.passing_at}

module _ {V : Type 0} where
  pub lookup_put_of_numbers : (l : List (ℕ × V)) (k : ℕ) (v : V) (q : ℕ) → lookup nat_eq (put nat_eq l k v) q ≡ (if nat_eq k q then Some v else lookup nat_eq l q)
  lookup_put_of_numbers = lookup_put_any nat_eq nat_eq_equiv

  pub lookup_put_key_of_numbers : (l : List (ℕ × V)) (k : ℕ) (v : V) (q : ℕ) → lookup nat_eq (put_key nat_eq l k v) q ≡ (if nat_eq k q then Some v else lookup nat_eq l q)
  lookup_put_key_of_numbers = lookup_put_key_any nat_eq nat_eq_equiv

  pub lookup_put_at_of_numbers : (l : List (ℕ × V)) (i : ℕ) (k : ℕ) (v : V) (q : ℕ) → HasDistinctKeys nat_eq l → lookup nat_eq (put_at nat_eq l i k v) q ≡ (if nat_eq k q then Some v else lookup nat_eq l q)
  lookup_put_at_of_numbers = lookup_put_at_any nat_eq nat_eq_equiv

  pub lookup_without_of_numbers : (l : List (ℕ × V)) (k q : ℕ) → HasDistinctKeys nat_eq l → lookup nat_eq (without_key nat_eq l k) q ≡ (if nat_eq k q then None else lookup nat_eq l q)
  lookup_without_of_numbers = lookup_without_any nat_eq nat_eq_equiv

  pub lookup_removed_of_numbers : (l : List (ℕ × V)) (k : ℕ) → HasDistinctKeys nat_eq l → lookup nat_eq (without_key nat_eq l k) k ≡ None
  lookup_removed_of_numbers = lookup_without_key nat_eq nat_eq_equiv

  pub lookup_without_other_of_numbers : (l : List (ℕ × V)) (k q : ℕ) → nat_eq k q ≡ false → lookup nat_eq (without_key nat_eq l k) q ≡ lookup nat_eq l q
  lookup_without_other_of_numbers = lookup_without_key_other nat_eq nat_eq_equiv

  pub lookup_swap_without_of_numbers : (l : List (ℕ × V)) (k q : ℕ) → HasDistinctKeys nat_eq l → lookup nat_eq (swap_without_key nat_eq l k) q ≡ (if nat_eq k q then None else lookup nat_eq l q)
  lookup_swap_without_of_numbers = lookup_swap_without_key nat_eq nat_eq_equiv

  pub lookup_puts_of_numbers : (l m : List (ℕ × V)) (q : ℕ) → HasDistinctKeys nat_eq m → lookup nat_eq (puts nat_eq l m) q ≡ option_or (lookup nat_eq m q) (lookup nat_eq l q)
  lookup_puts_of_numbers l m q d = lookup_puts_distinct nat_eq nat_eq_equiv l m d q

  pub lookup_swapped_of_numbers : (l : List (ℕ × V)) (moves : List (ℕ × ℕ)) (q : ℕ) → SwapsInRange (length l) moves → HasDistinctKeys nat_eq l → lookup nat_eq (apply_swaps l moves) q ≡ lookup nat_eq l q
  lookup_swapped_of_numbers = lookup_swapped nat_eq nat_eq_equiv

  pub lookup_swap_of_numbers : (l : List (ℕ × V)) (i j : ℕ) (q : ℕ) → i < length l → j < length l → HasDistinctKeys nat_eq l → lookup nat_eq (swap l i j) q ≡ lookup nat_eq l q
  lookup_swap_of_numbers = lookup_swap nat_eq nat_eq_equiv

  pub lookup_reverse_of_numbers : (l : List (ℕ × V)) (q : ℕ) → HasDistinctKeys nat_eq l → lookup nat_eq (reverse l) q ≡ lookup nat_eq l q
  lookup_reverse_of_numbers = lookup_reverse nat_eq nat_eq_equiv

  pub lookup_take_of_numbers : (l : List (ℕ × V)) (n : ℕ) (q : ℕ) → lookup nat_eq (take n l) q ≡ (if nat_lt (index_or_length nat_eq l q) n then lookup nat_eq l q else None)
  lookup_take_of_numbers = lookup_take nat_eq

  pub lookup_drop_of_numbers : (l : List (ℕ × V)) (n : ℕ) (q : ℕ) → HasDistinctKeys nat_eq l → lookup nat_eq (drop n l) q ≡ (if nat_lt (index_or_length nat_eq l q) n then None else lookup nat_eq l q)
  lookup_drop_of_numbers = lookup_drop nat_eq nat_eq_equiv

  pub present_of_numbers : (l : List (ℕ × V)) (q : ℕ) → is_some (index_of nat_eq l q) ≡ is_some (lookup nat_eq l q)
  present_of_numbers = present nat_eq

  pub absent_among_numbers : {W : Type 0} (l : List (ℕ × V)) (k : ℕ) (ks : List ℕ) (all : List (ℕ × W)) → keys_of l ++ k ∷ ks ≡ keys_of all → HasDistinctKeys nat_eq all → lookup nat_eq l k ≡ None
  absent_among_numbers l k ks all e d = absent_among nat_eq l k ks all e d nat_eq_equiv

  -- A pair that is removed and placed at its index again restores the list.
  pub restored_of_numbers : (l : List (ℕ × V)) (i k : ℕ) (v : V) → HasDistinctKeys nat_eq l → index_of nat_eq l k ≡ Some i → lookup nat_eq l k ≡ Some v → put_at nat_eq (without_key nat_eq l k) i k v ≡ l
  restored_of_numbers l i k v d at is =
      let stored = passing_at (λ p. nat_eq k p.0) l i (sym (index_by_is (nat_eq k) l) ∙ at) in
      let value : Some v ≡ value_at l i = sym is ∙ lookup_by_index (nat_eq k) l ∙ ap (option_and_then (value_at l)) at in
      let there : slice_get l i ≡ Some (k, v) = grind (arith, common_steps, value, stored.1, eqb-true k stored.0.0 stored.2) in
      put_back nat_eq l (without_key nat_eq l k) i k v at there (without_absent nat_eq (without_key nat_eq l k) k (index_of_without_key nat_eq nat_eq_equiv l k d))

  -- After a write at an index, other keys find what they found before.
  pub lookup_written_at_of_numbers : (l : List (ℕ × V)) (i : ℕ) (v : V) (p : ℕ × V) (q : ℕ) → slice_get l i ≡ Some p → nat_eq p.0 q ≡ false → lookup nat_eq (with_value l i v) q ≡ lookup nat_eq l q
  lookup_written_at_of_numbers = lookup_written_at nat_eq nat_eq_equiv

  pub puts_restore_of_numbers : (l : List (ℕ × V)) (n : ℕ) → HasDistinctKeys nat_eq l → puts nat_eq (take n l) (drop n l) ≡ l
  puts_restore_of_numbers = puts_restore nat_eq nat_eq_equiv

  pub put_put_of_numbers : (l : List (ℕ × V)) (k : ℕ) (v w : V) → put nat_eq (put nat_eq l k v) k w ≡ put nat_eq l k w
  put_put_of_numbers = put_put nat_eq nat_eq_equiv

  pub distinct_put_of_numbers : (l : List (ℕ × V)) (k : ℕ) (v : V) → HasDistinctKeys nat_eq l → HasDistinctKeys nat_eq (put nat_eq l k v)
  distinct_put_of_numbers = distinct_put nat_eq nat_eq_equiv

  pub distinct_puts_of_numbers : (l m : List (ℕ × V)) → HasDistinctKeys nat_eq l → HasDistinctKeys nat_eq (puts nat_eq l m)
  distinct_puts_of_numbers = distinct_puts nat_eq nat_eq_equiv

  pub distinct_put_key_of_numbers : (l : List (ℕ × V)) (k : ℕ) (v : V) → HasDistinctKeys nat_eq l → HasDistinctKeys nat_eq (put_key nat_eq l k v)
  distinct_put_key_of_numbers = distinct_put_key nat_eq nat_eq_equiv

  pub distinct_put_at_of_numbers : (l : List (ℕ × V)) (i : ℕ) (k : ℕ) (v : V) → HasDistinctKeys nat_eq l → HasDistinctKeys nat_eq (put_at nat_eq l i k v)
  distinct_put_at_of_numbers = distinct_put_at nat_eq nat_eq_equiv

  pub distinct_without_of_numbers : (l : List (ℕ × V)) (k : ℕ) → HasDistinctKeys nat_eq l → HasDistinctKeys nat_eq (without_key nat_eq l k)
  distinct_without_of_numbers = distinct_without_key nat_eq nat_eq_equiv

  pub distinct_swap_without_of_numbers : (l : List (ℕ × V)) (k : ℕ) → HasDistinctKeys nat_eq l → HasDistinctKeys nat_eq (swap_without_key nat_eq l k)
  distinct_swap_without_of_numbers = distinct_keys_swap_without_key nat_eq nat_eq_equiv

  pub distinct_swapped_of_numbers : (l : List (ℕ × V)) (moves : List (ℕ × ℕ)) → SwapsInRange (length l) moves → HasDistinctKeys nat_eq l → HasDistinctKeys nat_eq (apply_swaps l moves)
  distinct_swapped_of_numbers = distinct_swapped nat_eq nat_eq_equiv

  pub distinct_reverse_of_numbers : (l : List (ℕ × V)) → HasDistinctKeys nat_eq l → HasDistinctKeys nat_eq (reverse l)
  distinct_reverse_of_numbers = distinct_keys_reverse nat_eq nat_eq_equiv

  pub distinct_take_of_numbers : (l : List (ℕ × V)) (n : ℕ) → HasDistinctKeys nat_eq l → HasDistinctKeys nat_eq (take n l)
  distinct_take_of_numbers = distinct_keys_take nat_eq

  pub distinct_drop_of_numbers : (l : List (ℕ × V)) (n : ℕ) → HasDistinctKeys nat_eq l → HasDistinctKeys nat_eq (drop n l)
  distinct_drop_of_numbers = distinct_keys_drop nat_eq

-- In equal maps from numbers to numbers, each key has the same value.
pub lookups_of_equal_numbers : (a b : List (ℕ × ℕ)) → IsTrue (has_same_counts nat_eq nat_eq a b) → HasDistinctKeys nat_eq a → HasDistinctKeys nat_eq b → (q : ℕ) → lookup nat_eq a q ≡ lookup nat_eq b q
lookups_of_equal_numbers = lookups_of_equal nat_eq nat_eq nat_eq_equiv nat_eq_equiv eqb-true

pub member_add_of_numbers : (s : List ℕ) (x y : ℕ) → is_member nat_eq (add nat_eq s x) y ≡ (is_member nat_eq s y || nat_eq x y)
member_add_of_numbers = is_member_add nat_eq nat_eq_equiv

pub member_adds_of_numbers : (s t : List ℕ) (y : ℕ) → is_member nat_eq (adds nat_eq s t) y ≡ (is_member nat_eq s y || is_member nat_eq t y)
member_adds_of_numbers = is_member_adds nat_eq nat_eq_equiv

pub member_without_of_numbers : (s : List ℕ) (x y : ℕ) → IsDistinct nat_eq s → is_member nat_eq (without_item nat_eq s x) y ≡ (is_member nat_eq s y && not (nat_eq x y))
member_without_of_numbers = is_member_without nat_eq nat_eq_equiv

pub member_swap_without_of_numbers : (s : List ℕ) (x y : ℕ) → IsDistinct nat_eq s → is_member nat_eq (swap_without_item nat_eq s x) y ≡ (is_member nat_eq s y && not (nat_eq x y))
member_swap_without_of_numbers = is_member_swap_without nat_eq nat_eq_equiv

-- What lookups find after calls.
pub ruleset lookups_at_numbers = (lookup_put_of_numbers, lookup_put_key_of_numbers, lookup_put_at_of_numbers, lookup_without_of_numbers, lookup_removed_of_numbers, lookup_without_other_of_numbers, lookup_swap_without_of_numbers, lookup_puts_of_numbers, lookup_swapped_of_numbers, lookup_swap_of_numbers, lookup_reverse_of_numbers, lookup_take_of_numbers, lookup_drop_of_numbers, present_of_numbers, puts_restore_of_numbers, distinct_put_of_numbers, distinct_puts_of_numbers, distinct_put_key_of_numbers, distinct_put_at_of_numbers, distinct_without_of_numbers, distinct_swap_without_of_numbers, distinct_swapped_of_numbers, distinct_reverse_of_numbers, distinct_take_of_numbers, distinct_drop_of_numbers)

-- Which elements are present in a set.
pub ruleset members_at_numbers = (member_add_of_numbers, member_adds_of_numbers, member_without_of_numbers, member_swap_without_of_numbers)
