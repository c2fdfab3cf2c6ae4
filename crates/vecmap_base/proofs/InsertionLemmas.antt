-- The records of insertions, from the list that is left.
use Rattle.std.specs.{Cmp.IsEquivalence, Map.keys_of, Option.option_map_or}
use Rattle.std.proofs.Common.{◌≡◌, ◌∙◌, ◌+◌, ◌-◌, ◌≤◌, ◌++◌, ℕ, zero, suc, Bool, true, false, List, [], ◌∷◌, None, Option, Some, IsSome, ap, arith, if◌then◌else◌, insert, is_some, length, min, option_map, refl, remove, slice_get, sym, unwrap_or}
use Rattle.std.proofs.{lemmas.List.{length-append, length-map}, lemmas.List.Edits.{length-insert, length-remove}}
use Rattle.std.proofs.lemmas.Option.{none-some, slice_get_within}
use Rattle.vecmap_base.specs.Insertions.{AddsKey, InsertsAt, PutsKey, SetsKey}
use Rattle.vecmap_base.specs.Pairs.{index_by, index_of, index_or_length, lookup, put, put_at, put_key, with_pair}
use Rattle.vecmap_base.proofs.{IndexLemmas.slice_get_last, MoveLemmas.{front_inserted, inserted_found}, PairsLemmas.AtIndices.{match_at, same_indices, stays}}
use Rattle.vecmap_base.proofs.PairsLemmas.{ByIndex.{index_by_none, is_some_lookup_by, put_key_by_index, is_some_index_of}, Keys.{keys_of_insert, keys_of_put}}
use Rattle.vecmap_base.proofs.PairsLemmas.{LookupsAfterChanges.updates_of_put, Puts.{put_absent, put_stored}, Updates.{updates_put_at, updates_put_key}}

suc_unwrapped : (found : Option ℕ) (n : ℕ) → suc (unwrap_or found n) ≡ unwrap_or (option_map suc found) (suc n)
suc_unwrapped None n = refl
suc_unwrapped (Some i) n = refl

module _ {K V : Type 0} (eq : K → K → Bool) where
  -- An insertion moves no key.
  pub indices_put : (test : K → Bool) (l : List (K × V)) (k : K) (v : V) (i : ℕ) → index_by test l ≡ Some i → index_by test (put eq l k v) ≡ Some i
  indices_put test [] k v i e = grind (arith, none-some, stays)
  indices_put test (p ∷ ps) k v i e = grind (arith, none-some, stays, (indices_put test ps k v))

  keys_put : (l : List (K × V)) (k : K) (v : V) → keys_of (put eq l k v) ≡ (if is_some (lookup eq l k) then keys_of l else keys_of l ++ k ∷ [])
  keys_put l k v = keys_of_put eq l k v ∙ ap (λ b. if b then keys_of l else keys_of l ++ k ∷ []) (sym (is_some_lookup_by (eq k) l ∙ is_some_index_of eq l k))

  length_put_by_lookup : (l : List (K × V)) (k : K) (v : V) → length (put eq l k v) ≡ (if is_some (lookup eq l k) then length l else length l + 1)
  length_put_by_lookup l k v = sym (length-map (put eq l k v) (λ p. p.0)) ∙ ap length (keys_put l k v) ∙ by (is_some (lookup eq l k))
    where
      by : (b : Bool) → length (if b then keys_of l else keys_of l ++ k ∷ []) ≡ (if b then length l else length l + 1)
      by true = length-map l (λ p. p.0)
      by false = length-append (keys_of l) (k ∷ []) ∙ ap (λ n. n + 1) (length-map l (λ p. p.0))

  -- An insertion that replaces an equal key leaves as many pairs as one that keeps it.
  pub length_put_key : (l : List (K × V)) (k : K) (v : V) → length (put_key eq l k v) ≡ length (put eq l k v)
  length_put_key [] k v = grind (arith)
  length_put_key (p ∷ ps) k v = grind (arith, (length_put_key ps k v))

  module _ (o : IsEquivalence eq) where
    index_put : (l : List (K × V)) (k : K) (v : V) → index_of eq (put eq l k v) k ≡ Some (index_or_length eq l k)
    index_put [] k v = grind (arith, option_map, suc_unwrapped)
    index_put (p ∷ ps) k v = grind (arith, option_map, suc_unwrapped, (index_put ps k v))

    -- If the value is the one that is stored, nothing changes.
    put_found : (l : List (K × V)) (k : K) (v w : V) → IsSome (lookup eq l k) → v ≡ unwrap_or (lookup eq l k) w → put eq l k v ≡ l
    put_found l k v w some e = grind (arith, put_stored, is_some_lookup_by)

    -- After an insertion.
    pub adds_key : (l m : List (K × V)) (k : K) (v : V) → m ≡ put eq l k v → AddsKey eq l k v m
    adds_key l m k v e = grind (arith, (updates_of_put eq o l m k v e), index_put, indices_put, keys_put, length_put_by_lookup, put_absent, index_by_none, slice_get_last, same_indices, put_found)

    pub sets_key : (l m : List (K × V)) (k : K) (v : V) → m ≡ put eq l k v → SetsKey eq l k v m
    sets_key l m k v e =
        let a = adds_key l m k v e in
        record {
          entries = a.entries;
          updates = a.updates;
          index = a.index;
          indices = a.indices;
          kept = λ some. a.keys ∙ ap (λ b. if b then keys_of l else keys_of l ++ k ∷ []) some;
          appended = a.appended;
          last = a.last;
          pair = a.pair;
          stay = a.stay;
          same = a.same;
        }

    -- Each key has the same index after an insertion that keeps an equal key and after one that replaces it.
    pub index_of_put_key : (l : List (K × V)) (k : K) (v : V) (q : K) → index_of eq (put_key eq l k v) q ≡ index_of eq (put eq l k v) q
    index_of_put_key [] k v q = grind (arith, option_map)
    index_of_put_key (p ∷ ps) k v q = grind (arith, option_map, (index_of_put_key ps k v q))

    pair_put_key : (l : List (K × V)) (k : K) (v : V) → slice_get (put_key eq l k v) (index_or_length eq l k) ≡ Some (k, v)
    pair_put_key [] k v = grind (arith, option_map, suc_unwrapped)
    pair_put_key (p ∷ ps) k v = grind (arith, option_map, suc_unwrapped, (pair_put_key ps k v))

    -- If only `k` itself is equal to it, the keys are those of an insertion that keeps it.
    keys_put_key : (l : List (K × V)) (k : K) (v : V) → ((q : K) → eq k q ≡ true → q ≡ k) → keys_of (put_key eq l k v) ≡ keys_of (put eq l k v)
    keys_put_key [] k v own = grind (arith)
    keys_put_key (p ∷ ps) k v own = grind (arith, (keys_put_key ps k v own))

    appended_key : (l : List (K × V)) (k : K) (v : V) → lookup eq l k ≡ None → put_key eq l k v ≡ l ++ (k, v) ∷ []
    appended_key l k v absent = put_key_by_index eq l k v ∙ ap (λ found. option_map_or (λ i. with_pair l i k v) found (l ++ (k, v) ∷ [])) (index_by_none (eq k) l absent)

    -- After an insertion that replaces an equal key.
    pub puts_key : (l m : List (K × V)) (k : K) (v : V) → m ≡ put_key eq l k v → PutsKey eq l k v m
    puts_key l m k v e = grind (arith, (updates_put_key eq o l m k v e), index_of_put_key, index_put, indices_put, pair_put_key, length_put_key, length_put_by_lookup, appended_key, keys_put_key, keys_put)

    -- After a pair is appended whose key is absent.
    pub adds_new_key : (l m : List (K × V)) (k : K) (v : V) → m ≡ l ++ (k, v) ∷ [] → lookup eq l k ≡ None → AddsKey eq l k v m
    adds_new_key l m k v e absent = adds_key l m k v (e ∙ sym (put_absent eq l k v (index_by_none (eq k) l absent)))

  -- After an insertion at an index, the pair is there, or last if the index is past the end of the list that it makes.
  put_at_found : (l m : List (K × V)) (i : ℕ) (k : K) (v : V) → m ≡ put_at eq l i k v → i ≤ length l → slice_get m (min i (length m - 1)) ≡ Some (k, v)
  put_at_found l m i k v e h = grind (arith, length-insert, inserted_found, match_at, slice_get_within, length-remove)

  module _ (l : List (K × V)) (k : K) (v : V) where
    length_put_at : (i : ℕ) → i ≤ length l → length (put_at eq l i k v) ≡ (if is_some (lookup eq l k) then length l else length l + 1)
    length_put_at i h = grind (arith, is_some_lookup_by, length-insert, match_at, slice_get_within, length-remove)

    put_at_new : (i : ℕ) → lookup eq l k ≡ None → put_at eq l i k v ≡ insert l i (k, v)
    put_at_new i absent = ap (λ found. option_map_or (λ j. insert (remove l j) (min i (length l - 1)) (k, v)) found (insert l i (k, v))) (index_by_none (eq k) l absent)

  module _ (o : IsEquivalence eq) where
    index_inserted : (l : List (K × V)) (i : ℕ) (k : K) (v : V) → i ≤ length l → index_of eq l k ≡ None → index_of eq (insert l i (k, v)) k ≡ Some i
    index_inserted [] zero k v h absent = grind (arith, option_map, none-some)
    index_inserted (p ∷ ps) zero k v h absent = grind (arith, option_map, none-some)
    index_inserted [] (suc i) k v h absent = grind (arith, option_map, none-some)
    index_inserted (p ∷ ps) (suc i) k v h absent = grind (arith, option_map, none-some, (index_inserted ps i k v))

    -- After an insertion at an index.
    pub inserts_at : (l m : List (K × V)) (i : ℕ) (k : K) (v : V) → m ≡ put_at eq l i k v → i ≤ length l → InsertsAt eq i l k v m
    inserts_at l m i k v e h = grind (arith, (updates_put_at eq o l m i k v e), (put_at_found l m i k v e h), index_inserted, index_by_none, inserted_found, front_inserted, keys_of_insert, length_put_at, put_at_new)
