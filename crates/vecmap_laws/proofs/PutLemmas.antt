-- What insertions make of a list, one at a time, many in order, and by an entry.
use Rattle.std.specs.{Cmp.IsEquivalence, Option.option_map_or, Prelude.IsSome}
use Rattle.std.proofs.Common.{Bool, List, None, Some, [], ap, arith, drop, insert, length, min, remove, take, ℕ, ◌++◌, ◌-◌, ◌∷◌, ◌≡◌, sym, ◌∙◌, true≢false}
use Rattle.std.proofs.lemmas.List.{take-append-drop, Sums.fold-append}
use Rattle.vecmap_base.specs.Pairs.{HasDistinctKeys, index_of, put, put_at, puts, with_value}
use Rattle.vecmap_base.proofs.PairsLemmas.{ByIndex.put_by_index, Keys.put_cons, ManyPairs.puts_apart}
use Rattle.vecmap_map.specs.{Entry.{AreEntriesWith, entry_key, entry_map, entry_index_of}, declared.entry.Entry.{Entry, TheVariants.{Occupied, Vacant}}}

module _ {K V : Type 0} (eq : K → K → Bool) where
  -- If the key is absent, the pair is inserted at `i`.
  pub put_at_absent : (l : List (K × V)) (i : ℕ) (k : K) (v : V) → index_of eq l k ≡ None → put_at eq l i k v ≡ insert l i (k, v)
  put_at_absent l i k v e = ap (λ o. option_map_or (λ j. insert (remove l j) (min i (length l - 1)) (k, v)) o (insert l i (k, v))) e

  -- If the key is at `j`, its old pair is removed first.
  pub put_at_present : (l : List (K × V)) (i : ℕ) (k : K) (v : V) (j : ℕ) → index_of eq l k ≡ Some j → put_at eq l i k v ≡ insert (remove l j) (min i (length l - 1)) (k, v)
  put_at_present l i k v j e = ap (λ o. option_map_or (λ m. insert (remove l m) (min i (length l - 1)) (k, v)) o (insert l i (k, v))) e

  -- Pairs that are inserted in two parts are inserted as a whole.
  pub puts_append : (l a b : List (K × V)) → puts eq l (a ++ b) ≡ puts eq (puts eq l a) b
  puts_append l a b = fold-append (λ done p. put eq done p.0 p.1) l a b

  module _ (o : IsEquivalence eq) where
    -- If a list of distinct keys is split, the insertion of the second part into the first restores it.
    pub puts_restore : (l : List (K × V)) (at : ℕ) → HasDistinctKeys eq l → puts eq (take at l) (drop at l) ≡ l
    puts_restore l at d = grind (arith, take-append-drop, puts_apart)

    -- Two insertions of a key are the second one.
    pub put_put : (l : List (K × V)) (k : K) (v w : V) → put eq (put eq l k v) k w ≡ put eq l k w
    put_put [] k v w = grind (arith, put_cons)
    put_put (p ∷ ps) k v w = grind (arith, put_cons, (put_put ps k v w))

module _ {K V : Type 0} where
  -- If the key is present.
  pub entries_with_is_put : (eq : K → K → Bool) (is_clone : K → K → Type 0) (e : Entry K V) (v : V) (l : List (K × V)) → entry_index_of e ≡ index_of eq (entry_map e).entries (entry_key e) → IsSome (entry_index_of e) → AreEntriesWith is_clone e v l → l ≡ put eq (entry_map e).entries (entry_key e) v
  entries_with_is_put eq is_clone (Occupied o) v l place there left = left ∙ ap (λ found. option_map_or (λ i. with_value o.map.now.entries i v) found (o.map.now.entries ++ (o.key, v) ∷ [])) place ∙ sym (put_by_index eq o.map.now.entries o.key v)
  entries_with_is_put eq is_clone (Vacant e) v l place there left = absurd (true≢false (sym there))

  -- If the key is new.
  pub new_entries_with : (is_clone : K → K → Type 0) (e : Entry K V) (v : V) (l : List (K × V)) → entry_index_of e ≡ None → AreEntriesWith is_clone e v l → (k : K) × is_clone (entry_key e) k × (l ≡ (entry_map e).entries ++ (k, v) ∷ [])
  new_entries_with is_clone (Occupied o) v l absent left = absurd (let n : Some o.index ≡ None = absent in cc)
  new_entries_with is_clone (Vacant e) v l absent left = left
