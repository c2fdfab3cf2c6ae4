-- What a removal, an insertion, a write and a placement leave of the other pairs. The idea: the list without the key is
-- the same before and after, and a placement is an insertion into that list.
use Rattle.std.proofs.lemmas.Grind.{common_steps}
use Rattle.std.proofs.Common.{◌≡◌, ◌≤◌, ℕ, Bool, List, [], ◌∷◌, ◌++◌, None, Option, Some, ap, arith, if◌then◌else◌, insert, length, min, refl, remove, set, slice_get, suc, sym, zero, ◌∙◌}
use Rattle.std.proofs.lemmas.{List.drop_min, List.set-get_or, List.take_min, List.Edits.length-remove, List.Quantifiers.position-Some, Option.get_or_from_slice_get, Option.slice_get_within}
use Rattle.std.specs.{Cmp.IsEquivalence, Option.option_map_or}
use Rattle.vecmap_base.proofs.PairsLemmas.{ByIndex.index_by_is, ByIndex.without_by_index, Puts.put_absent}
use Rattle.vecmap_base.specs.{Items.swap_without, Pairs.{HasDistinctKeys, index_of, lookup, put, put_at, swap_without_key, without_key}}
use Rattle.vecmap_laws.proofs.{AfterPuts.index_of_without_key, Inserted.{absent_first, index_none, insert_where_removed, without_key_at}}
use Rattle.vecmap_laws.proofs.{PutLemmas.{put_at_absent, put_at_present}, TakenOut.passing_at}

-- An index past the end is the end.
insert_min : {X : Type 0} (xs : List X) (i : ℕ) (x : X) → insert xs (min i (length xs)) x ≡ insert xs i x
insert_min xs i x = rw (take_min i xs, drop_min i xs) refl

insert_past : {X : Type 0} (xs : List X) (i n : ℕ) (x : X) → length xs ≤ n → insert xs (min i n) x ≡ insert xs i x
insert_past xs i n x h = grind (arith, common_steps, insert_min)

module _ {K V : Type 0} (eq : K → K → Bool) where
  -- The removal of an absent key changes nothing.
  pub without_absent : (l : List (K × V)) (k : K) → index_of eq l k ≡ None → without_key eq l k ≡ l
  without_absent l k none = without_by_index (eq k) l ∙ ap (λ found. option_map_or (λ i. remove l i) found l) none

  pub swap_without_absent : (l : List (K × V)) (k : K) → index_of eq l k ≡ None → swap_without_key eq l k ≡ l
  swap_without_absent l k none = ap (λ found. option_map_or (λ i. swap_without l i) found l) none

  pub without_not_found : (l : List (K × V)) (k : K) → lookup eq l k ≡ None → without_key eq l k ≡ l
  without_not_found l k none = without_absent l k (index_none eq l k none)

  -- A placement is an insertion at the index into the list without the key.
  pub put_at_is_insert : (l : List (K × V)) (i : ℕ) (k : K) (v : V) → put_at eq l i k v ≡ insert (without_key eq l k) i (k, v)
  put_at_is_insert l i k v = grind (arith, common_steps, put_at_absent, without_absent, position-Some, index_by_is, length-remove, put_at_present, insert_min, without_key_at)

  shorter_without : (l : List (K × V)) (k : K) → length (without_key eq l k) ≤ length l
  shorter_without l k = by (index_of eq l k) refl
    where
      by : (found : Option ℕ) → index_of eq l k ≡ found → length (without_key eq l k) ≤ length l
      by None e = rw (without_absent l k e) (omega arith)
      by (Some j) e = let at = passing_at (λ p. eq k p.0) l j (sym (index_by_is (eq k) l) ∙ e) in rw (without_key_at eq l k j e) (omega (arith, length-remove l j (slice_get_within l j at.0 at.1)))

  -- A placement at an index past the end is one at the end.
  pub put_at_past : (l : List (K × V)) (i : ℕ) (k : K) (v : V) → put_at eq l (min i (length l)) k v ≡ put_at eq l i k v
  put_at_past l i k v = put_at_is_insert l (min i (length l)) k v ∙ insert_past (without_key eq l k) i (length l) (k, v) (shorter_without l k) ∙ sym (put_at_is_insert l i k v)

  -- The stored pair, inserted at its index among the pairs of the other keys, restores the list. Its key is equal to `k`.
  pub put_stored_back : (l m : List (K × V)) (i : ℕ) (k stored : K) (v : V) → index_of eq l k ≡ Some i → slice_get l i ≡ Some (stored, v) → without_key eq m k ≡ without_key eq l k → insert (without_key eq m k) i (stored, v) ≡ l
  put_stored_back l m i k stored v at there same =
      ap (λ n. insert n i (stored, v)) (same ∙ without_key_at eq l k i at)
      ∙ insert_where_removed l i (stored, v) (slice_get_within l i (stored, v) there)
      ∙ ap (λ p. set l i p) (sym (get_or_from_slice_get l i (stored, v) (stored, v) there))
      ∙ set-get_or l i (stored, v)

  -- A pair that is placed at its index among the pairs of the other keys restores the list.
  pub put_back : (l m : List (K × V)) (i : ℕ) (k : K) (v : V) → index_of eq l k ≡ Some i → slice_get l i ≡ Some (k, v) → without_key eq m k ≡ without_key eq l k → put_at eq m i k v ≡ l
  put_back l m i k v at stored same = put_at_is_insert m i k v ∙ put_stored_back l m i k k v at stored same

  module _ (o : IsEquivalence eq) where
    own_first : (l : List (K × V)) (k : K) (v : V) → without_key eq ((k, v) ∷ l) k ≡ l
    own_first l k v = ap (λ b. if b then l else (k, v) ∷ without_key eq l k) (o.refl k)

    without_inserted : (l : List (K × V)) (i : ℕ) (k : K) (v : V) → index_of eq l k ≡ None → without_key eq (insert l i (k, v)) k ≡ l
    without_inserted [] zero k v none = own_first [] k v
    without_inserted [] (suc i) k v none = own_first [] k v
    without_inserted (p ∷ ps) zero k v none = own_first (p ∷ ps) k v
    without_inserted (p ∷ ps) (suc i) k v none =
        let first = absent_first eq p ps k none in
        let more = insert ps i (k, v) in
        ap (λ b. if b then more else p ∷ without_key eq more k) first.0 ∙ ap (λ m. p ∷ m) (without_inserted ps i k v first.1)

    module _ (l : List (K × V)) (d : HasDistinctKeys eq l) (k : K) where
      pub without_put_at : (i : ℕ) (v : V) → without_key eq (put_at eq l i k v) k ≡ without_key eq l k
      without_put_at i v = ap (λ m. without_key eq m k) (put_at_is_insert l i k v) ∙ without_inserted (without_key eq l k) i k v (index_of_without_key eq o l k d)

      -- A pair that is removed by its index and inserted again is last.
      pub put_last : (i : ℕ) (v : V) → index_of eq l k ≡ Some i → put eq (remove l i) k v ≡ without_key eq l k ++ (k, v) ∷ []
      put_last i v at = ap (λ m. put eq m k v) (sym (without_key_at eq l k i at)) ∙ put_absent eq (without_key eq l k) k v (index_of_without_key eq o l k d)
