-- Insertions at an index, removals by index, and a pair that is removed and then inserted again.
use Rattle.std.proofs.Common.{insert, remove, slice_get, slice_set, ◌≡◌, ◌<◌, ℕ, Bool, true, false, List, [], ◌∷◌, None, Option, Some, ap, arith, if◌then◌else◌, length, refl, suc, sym, true≢false, zero, ◌∙◌}
use Rattle.std.proofs.lemmas.Option.{none-some}
use Rattle.std.specs.{Cmp.IsEquivalence, Option.option_and_then, Option.option_map_or}
use Rattle.vecmap_base.proofs.PairsLemmas.{ByIndex.index_by_none, ByIndex.lookup_by_index, ByIndex.without_by_index, Updates.updates_put_at}
use Rattle.vecmap_base.specs.Pairs.{HasDistinctKeys, index_of, lookup, put_at, value_at, with_pair, without_key}
use Rattle.vecmap_laws.proofs.{AfterPuts.{index_of_own, index_of_without_key, lookup_own, lookup_without_any}, LookupLemmas.{look, lookup_congr}}
use Rattle.vecmap_laws.proofs.PutLemmas.{put_at_absent}

-- What is inserted where an item was removed replaces it.
pub insert_where_removed : {X : Type 0} (xs : List X) (i : ℕ) (y : X) → i < length xs → insert (remove xs i) i y ≡ slice_set xs i y
insert_where_removed [] i y h = absurd (omega arith)
insert_where_removed (x ∷ xs) zero y h = refl
insert_where_removed (x ∷ xs) (suc i) y h = ap (λ t. x ∷ t) (insert_where_removed xs i y (omega arith))

module _ {K V : Type 0} (eq : K → K → Bool) where
  -- The removal of a key is that of its index.
  pub without_key_at : (l : List (K × V)) (k : K) (i : ℕ) → index_of eq l k ≡ Some i → without_key eq l k ≡ remove l i
  without_key_at l k i at = without_by_index (eq k) l ∙ ap (λ found. option_map_or (λ j. remove l j) found l) at

  lookup_none : (l : List (K × V)) (k : K) → index_of eq l k ≡ None → lookup eq l k ≡ None
  lookup_none l k none = lookup_by_index (eq k) l ∙ ap (option_and_then (value_at l)) none

  pub index_none : (l : List (K × V)) (k : K) → lookup eq l k ≡ None → index_of eq l k ≡ None
  index_none l k = index_by_none (eq k) l

  passed : (b : Bool) (found : Option V) (v : V) → (if b then Some v else found) ≡ None → b ≡ false
  passed true found v e = absurd (none-some v (sym e))
  passed false found v e = refl

  -- An absent key is not that of the first pair, and is absent behind it.
  pub absent_first : (p : K × V) (ps : List (K × V)) (q : K) → index_of eq (p ∷ ps) q ≡ None → (eq q p.0 ≡ false) × (index_of eq ps q ≡ None)
  absent_first p ps q none = grind (arith, lookup_none, passed, look, index_none)

  lookup_removed_absent : (l : List (K × V)) (i : ℕ) (q : K) → index_of eq l q ≡ None → lookup eq (remove l i) q ≡ None
  lookup_removed_absent [] zero q none = refl
  lookup_removed_absent [] (suc i) q none = refl
  lookup_removed_absent (p ∷ ps) zero q none = lookup_none ps q (absent_first p ps q none).1
  lookup_removed_absent (p ∷ ps) (suc i) q none =
      let first = absent_first p ps q none in
      look eq p (remove ps i) q false first.0 ∙ lookup_removed_absent ps i q first.1

  -- An absent key stays absent after a removal.
  pub index_of_removed_absent : (l : List (K × V)) (i : ℕ) (q : K) → index_of eq l q ≡ None → index_of eq (remove l i) q ≡ None
  index_of_removed_absent l i q none = index_none (remove l i) q (lookup_removed_absent l i q none)

  -- A new key that is inserted with a value where a pair was removed replaces the pair.
  pub put_at_where_removed : (l : List (K × V)) (i : ℕ) (k : K) (v : V) → i < length l → index_of eq l k ≡ None → put_at eq (remove l i) i k v ≡ with_pair l i k v
  put_at_where_removed l i k v within none = put_at_absent eq (remove l i) i k v (index_of_removed_absent l i k none) ∙ insert_where_removed l i (k, v) within

  module _ (o : IsEquivalence eq) where
    front : (l : List (K × V)) (k : K) (v : V) (q : K) → lookup eq ((k, v) ∷ l) q ≡ (if eq k q then Some v else lookup eq l q)
    front l k v q = look eq (k, v) l q (eq k q) (o.symm q k)

    -- After a new key is inserted at an index, it finds its value, and others find what they found before.
    pub lookup_insert : (l : List (K × V)) (i : ℕ) (k : K) (v : V) → index_of eq l k ≡ None → (q : K) → lookup eq (insert l i (k, v)) q ≡ (if eq k q then Some v else lookup eq l q)
    lookup_insert [] zero k v none q = front [] k v q
    lookup_insert [] (suc i) k v none q = front [] k v q
    lookup_insert (p ∷ ps) zero k v none q = front (p ∷ ps) k v q
    lookup_insert (p ∷ ps) (suc i) k v none q =
        let first = absent_first p ps k none in
        look eq p (insert ps i (k, v)) q (eq q p.0) refl
        ∙ ap (λ found. if eq q p.0 then Some p.1 else found) (lookup_insert ps i k v first.1 q)
        ∙ turn (eq q p.0) (eq k q) (λ x y. true≢false (sym (o.congr k q p.0 y ∙ x) ∙ first.0))
        ∙ ap (λ found. if eq k q then Some v else found) (sym (look eq p ps q (eq q p.0) refl))
      where
        turn : (a b : Bool) → (a ≡ true → b ≡ true → ⊥) → (if a then Some p.1 else (if b then Some v else lookup eq ps q)) ≡ (if b then Some v else (if a then Some p.1 else lookup eq ps q))
        turn true true clash = absurd (clash refl refl)
        turn true false clash = refl
        turn false b clash = refl

    -- The lookup of any key after the insertion of a new key at an index.
    pub lookup_put_at_absent : (l : List (K × V)) (i : ℕ) (k : K) (v : V) → index_of eq l k ≡ None → (q : K) → lookup eq (put_at eq l i k v) q ≡ (if eq k q then Some v else lookup eq l q)
    lookup_put_at_absent l i k v none q = ap (λ m. lookup eq m q) (put_at_absent eq l i k v none) ∙ lookup_insert l i k v none q

    -- The same of any key, if all keys are distinct.
    pub lookup_put_at : (l : List (K × V)) (i : ℕ) (k : K) (v : V) → HasDistinctKeys eq l → (q : K) → lookup eq (put_at eq l i k v) q ≡ (if eq k q then Some v else lookup eq l q)
    lookup_put_at l i k v d = (updates_put_at eq o l (put_at eq l i k v) i k v refl d).lookups

    module _ (l : List (K × V)) (d : HasDistinctKeys eq l) (i : ℕ) (k : K) (v : V) (stored : slice_get l i ≡ Some (k, v)) where
      -- If all keys are distinct, the key of a pair is absent once the pair is removed.
      pub removed_is_absent : index_of eq (remove l i) k ≡ None
      removed_is_absent =
          let gone = without_key_at l k i (index_of_own eq o l d i k v stored) in
          ap (λ m. index_of eq m k) (sym gone) ∙ index_of_without_key eq o l k d

      -- A pair that is removed and inserted at another index is moved there.
      pub put_at_moved : (j : ℕ) → put_at eq (remove l i) j k v ≡ insert (remove l i) j (k, v)
      put_at_moved j = put_at_absent eq (remove l i) j k v removed_is_absent

      -- Then each key finds what it found before.
      pub lookup_moved : (j : ℕ) (q : K) → lookup eq (put_at eq (remove l i) j k v) q ≡ lookup eq l q
      lookup_moved j q =
          let gone = without_key_at l k i (index_of_own eq o l d i k v stored) in
          lookup_put_at_absent (remove l i) j k v removed_is_absent q
          ∙ ap (λ m. if eq k q then Some v else lookup eq m q) (sym gone)
          ∙ ap (λ found. if eq k q then Some v else found) (lookup_without_any eq o l k q d)
          ∙ by (eq k q) refl
        where
          by : (b : Bool) → eq k q ≡ b → (if b then Some v else (if b then None else lookup eq l q)) ≡ lookup eq l q
          by true e = sym (lookup_own eq o l d i k v stored) ∙ lookup_congr eq o l k q e
          by false e = refl
