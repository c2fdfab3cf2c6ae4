-- At which indices keys are after a change, in the words of contracts, and what lookups find after a write at an index.
use Rattle.std.specs.{Cmp.IsEquivalence, List.{AllByRecursion, Sorted.IsPermutation}, Map.{IsKeyTest, keys_of}, Option.option_map_or}
use Rattle.std.proofs.Common.{◌≡◌, ◌∙◌, ◌-◌, ◌<◌, ◌++◌, ℕ, zero, suc, Bool, true, false, List, [], ◌∷◌, None, Option, Some, IfSome, ap, arith, drop, if◌then◌else◌, is_some, map, option_map, refl, remove, slice_get, subst, sym, take, IsSome}
use Rattle.std.proofs.lemmas.{List.{drop-map, length-map, map-append, take-map}, Map.{keys-set_value, Entries.lookup_from_place}}
use Rattle.std.proofs.lemmas.{Map.Keys.{IsDistinct-head, IsDistinct-tail}, Option.{none-some, same_Some}}
use Rattle.vecmap_base.specs.{Indices.{HasMatchAt, IsFoundAt, KeepsIndices, MovesIndex, ShiftsIndices}, Lookups.{UpdatesAt, WritesBy}}
use Rattle.vecmap_base.specs.Pairs.{HasDistinctKeys, index_by, lookup_by, without_by, with_value}
use Rattle.vecmap_base.proofs.{IndexLemmas.{position_front, position_stays}, MoveLemmas.front_removed}
use Rattle.vecmap_base.proofs.PairsLemmas.ByIndex.{index_by_is, lookup_by_index, without_by_index, is_some_lookup_by, set_value_by_index}
use Rattle.vecmap_base.proofs.PairsLemmas.LookupsAfterChanges.{distinct_keys_rearranged}
use Rattle.vecmap_base.proofs.PairsLemmas.Updates.{updates_matched, updates_write, updates_written_at, written_found}
use Rattle.vecmap_base.proofs.PairsLemmas.Values.{keys_of_with_value, values_of_with_value}

-- Without the item at an index, the results of a function of each other item stay.
removed_each : {X Y : Type 0} (f : X → Y) (l : List X) (i : ℕ) → map f (remove l i) ≡ remove (map f l) i
removed_each f l i = map-append f (take i l) (drop (suc i) l) ∙ (λ t. sym (take-map f i l) t ++ sym (drop-map f (suc i) l) t)

-- An index that stays in the rest of a list stays in the list.
pub stays : (b : Bool) (r s : Option ℕ) (i : ℕ) → ((j : ℕ) → r ≡ Some j → suc j ≡ i → s ≡ Some j) → (if b then Some 0 else option_map suc r) ≡ Some i → (if b then Some 0 else option_map suc s) ≡ Some i
stays true r s i rest e = e
stays false None s i rest e = absurd (none-some i e)
stays false (Some j) s i rest e = ap (option_map suc) (rest j refl (same_Some (suc j) i e)) ∙ e

-- The index of a match after the head, in the rest.
past_head : (b : Bool) (r : Option ℕ) (j : ℕ) → 0 < j → (if b then Some 0 else option_map suc r) ≡ Some j → (b ≡ false) × (r ≡ Some (j - 1))
past_head true r j h e = absurd (let f : 0 ≡ j = same_Some 0 j e in omega arith)
past_head false None j h e = absurd (none-some j e)
past_head false (Some k) j h e = (refl, let f : suc k ≡ j = same_Some (suc k) j e in ap Some (omega arith))

module _ {K V : Type 0} (test : K → Bool) where
  -- The pair at the index of a match is the one that a lookup finds.
  pub match_at : (l : List (K × V)) (i : ℕ) → index_by test l ≡ Some i → HasMatchAt test l i
  match_at [] i e = absurd (none-some i e)
  match_at (p ∷ ps) i e = by (test p.0) refl (index_by test ps) refl e (match_at ps)
    where
      by : (b : Bool) → test p.0 ≡ b → (r : Option ℕ) → index_by test ps ≡ r → (if b then Some 0 else option_map suc r) ≡ Some i → ((j : ℕ) → index_by test ps ≡ Some j → HasMatchAt test ps j)
          → (k : K) × (v : V) × (slice_get (p ∷ ps) i ≡ Some (k, v)) × (test k ≡ true) × ((if b then Some p.1 else lookup_by test ps) ≡ Some v)
      by true t r a f rest = (p.0, p.1, ap (slice_get (p ∷ ps)) (sym (same_Some 0 i f)), t, refl)
      by false t None a f rest = absurd (none-some i f)
      by false t (Some j) a f rest = let m = rest j a in (m.0, m.1, ap (slice_get (p ∷ ps)) (sym (same_Some (suc j) i f)) ∙ m.2, m.3, m.4)

  -- The same of a search that may have found nothing.
  pub match_if_found : (l : List (K × V)) (found : Option ℕ) → found ≡ index_by test l → IfSome found (HasMatchAt test l)
  match_if_found l None e = tt
  match_if_found l (Some i) e = match_at l i (sym e)

  -- A pair that is appended moves no key.
  pub index_stays : (l : List (K × V)) (p : K × V) (i : ℕ) → index_by test l ≡ Some i → index_by test (l ++ p ∷ []) ≡ Some i
  index_stays l p i e = index_by_is test (l ++ p ∷ []) ∙ position_front (λ q. test q.0) (p ∷ []) l i (sym (index_by_is test l) ∙ e)

  -- Lists with the same keys have them at the same indices.
  pub same_indices : (l m : List (K × V)) → keys_of m ≡ keys_of l → index_by test m ≡ index_by test l
  same_indices [] [] e = grind (arith, option_map)
  same_indices [] (q ∷ qs) e = grind (arith, option_map)
  same_indices (p ∷ ps) [] e = grind (arith, option_map)
  same_indices (p ∷ ps) (q ∷ qs) e = grind (arith, option_map, (same_indices ps qs (cc)))

  pub index_in_front : (n : ℕ) (l : List (K × V)) (i : ℕ) → index_by test l ≡ Some i → i < n → index_by test (take n l) ≡ Some i
  index_in_front n l i e h = index_by_is test (take n l) ∙ position_stays (λ q. test q.0) n l i (sym (index_by_is test l) ∙ e) h

  before_removed : (i : ℕ) (l : List (K × V)) (j : ℕ) → index_by test l ≡ Some j → j < i → index_by test (remove l i) ≡ Some j
  before_removed i [] j e h = absurd (none-some j e)
  before_removed zero (p ∷ ps) j e h = absurd (omega arith)
  before_removed (suc i) (p ∷ ps) j e h = stays (test p.0) (index_by test ps) (index_by test (remove ps i)) j (λ k f g. before_removed i ps k f (omega arith)) e

  after_removed : (i : ℕ) (l : List (K × V)) (j : ℕ) → index_by test l ≡ Some j → i < j → index_by test (remove l i) ≡ Some (j - 1)
  after_removed i [] j e h = absurd (none-some j e)
  after_removed zero (p ∷ ps) j e h = (past_head (test p.0) (index_by test ps) j h e).1
  after_removed (suc i) (p ∷ ps) j e h =
      let rest = past_head (test p.0) (index_by test ps) j (omega arith) e in
      let next : suc (j - 1 - 1) ≡ j - 1 = omega arith in
      ap (λ b. if b then Some 0 else option_map suc (index_by test (remove ps i))) rest.0
      ∙ ap (option_map suc) (after_removed i ps (j - 1) rest.1 (omega arith)) ∙ ap Some next

  -- If all keys are distinct, a pair that a query matches is found at its own index.
  module _ (eq : K → K → Bool) (o : IsEquivalence eq) (respects : IsKeyTest eq test) where
    key_held : (P : K → Type 0) (l : List (K × V)) → AllByRecursion P (keys_of l) → (i : ℕ) (p : K × V) → slice_get l i ≡ Some p → P p.0
    key_held P [] h i p e = absurd (none-some p e)
    key_held P (q ∷ qs) h zero p e = subst (λ r. P r.0) (same_Some q p e) h.0
    key_held P (q ∷ qs) h (suc i) p e = key_held P qs h.1 i p e

    pub index_by_own : (l : List (K × V)) → HasDistinctKeys eq l → (i : ℕ) (p : K × V) → slice_get l i ≡ Some p → test p.0 ≡ true → index_by test l ≡ Some i
    index_by_own [] d i p e t = absurd (none-some p e)
    index_by_own (q ∷ qs) d zero p e t = ap (λ b. if b then Some 0 else option_map suc (index_by test qs)) (ap (λ r. test r.0) (same_Some q p e) ∙ t)
    index_by_own (q ∷ qs) d (suc i) p e t =
        let apart : test q.0 ≡ false = respects p.0 q.0 t ∙ o.symm p.0 q.0 ∙ key_held (λ y. eq q.0 y ≡ false) qs (IsDistinct-head eq q.0 (keys_of qs) d) i p e in
        ap (λ b. if b then Some 0 else option_map suc (index_by test qs)) apart ∙ ap (option_map suc) (index_by_own qs (IsDistinct-tail eq q.0 (keys_of qs) d) i p e t)

  -- A query that matches the key of a pair finds something.
  pair_present_at : (l : List (K × V)) (i : ℕ) (p : K × V) → slice_get l i ≡ Some p → test p.0 ≡ true → is_some (lookup_by test l) ≡ true
  pair_present_at [] i p e t = grind (arith, none-some, same_Some)
  pair_present_at (q ∷ qs) zero p e t = grind (arith, none-some, same_Some)
  pair_present_at (q ∷ qs) (suc i) p e t = grind (arith, none-some, same_Some, (pair_present_at qs i p e t))

  -- A match before the index `n` keeps its index, if all pairs before `n` do.
  pub stays_in_front : (l m : List (K × V)) (n i : ℕ) → ((j : ℕ) → j < n → slice_get m j ≡ slice_get l j) → index_by test l ≡ Some i → i < n → index_by test m ≡ Some i
  stays_in_front [] m n i same e h = absurd (none-some i e)
  stays_in_front (p ∷ ps) m zero i same e h = absurd (omega (arith, h))
  stays_in_front (p ∷ ps) [] (suc n) i same e h = absurd (none-some p (same 0 (omega arith)))
  stays_in_front (p ∷ ps) (q ∷ qs) (suc n) i same e h =
      let head : q ≡ p = same_Some q p (same 0 (omega arith)) in
      ap (λ r. if test r.0 then Some 0 else option_map suc (index_by test qs)) head
      ∙ stays (test p.0) (index_by test ps) (index_by test qs) i (λ j at next. stays_in_front ps qs n j (λ d below. same (suc d) (omega (arith, below))) at (omega (arith, next, h))) e

module _ {K V : Type 0} where
  -- A pair at an index, in the word of contracts.
  pub found_at : (l : List (K × V)) (i : ℕ) (k : K) (v : V) → slice_get l i ≡ Some (k, v) → IsFoundAt i l k v
  found_at l i k v e = grind (arith, pair_present_at, lookup_from_place, index_by_own)

  -- The keys stay, each at its index.
  pub keeps_indices : (l m : List (K × V)) → keys_of m ≡ keys_of l → KeepsIndices l m
  keeps_indices l m e = grind (arith, same_indices, length-map, lookup_by_index)

  -- After the removal of the pair at an index.
  pub shifts_indices : (l m : List (K × V)) (i : ℕ) → m ≡ remove l i → ShiftsIndices i l m
  shifts_indices l m i e = grind (arith, before_removed, after_removed, front_removed, removed_each)

  -- The same after a removal by a query.
  pub shifts_without : (test : K → Bool) (l m : List (K × V)) → m ≡ without_by test l → IfSome (index_by test l) (λ i. ShiftsIndices i l m)
  shifts_without test l m e = grind (arith, without_by_index, shifts_indices)

  -- If distinct keys stay distinct, a pair that is known to be at another index is found there.
  pub moves_one : (l m : List (K × V)) (i j : ℕ) → ((eq : K → K → Bool) → IsEquivalence eq → HasDistinctKeys eq l → HasDistinctKeys eq m) → slice_get m j ≡ slice_get l i → MovesIndex i j l m
  moves_one l m i j stay at = record {
    pair = at;
    key = λ eq o d k. found eq (eq k) o (o.congr k) d;
    query = found;
  }
    where
      found : (eq : K → K → Bool) (test : K → Bool) → IsEquivalence eq → IsKeyTest eq test → HasDistinctKeys eq l → index_by test l ≡ Some i → index_by test m ≡ Some j
      found eq test o respects d e =
          let here = match_at test l i e in
          index_by_own test eq o respects m (stay eq o d) j (here.0, here.1) (at ∙ here.2) here.3

  -- The same in another order.
  pub moves_index : (l m : List (K × V)) (i j : ℕ) → IsPermutation l m → slice_get m j ≡ slice_get l i → MovesIndex i j l m
  moves_index l m i j moved at = moves_one l m i j (λ eq o d. distinct_keys_rearranged eq o l m moved d) at

pub writes_by : {K V : Type 0} (eq : K → K → Bool) (o : IsEquivalence eq) (test : K → Bool) → IsKeyTest eq test → (l : List (K × V)) → WritesBy eq test l
writes_by eq o test respects l = record { updates = updates_write eq o test respects l; keys = λ v. keeps_indices l _ (keys-set_value test l v) }

module _ {K V : Type 0} where
  own_value : (test : K → Bool) (l : List (K × V)) (i : ℕ) (v : V) → index_by test l ≡ Some i → lookup_by test (with_value l i v) ≡ Some v
  own_value test l i v at =
      let some : IsSome (lookup_by test l) = is_some_lookup_by test l ∙ ap is_some at in
      ap (lookup_by test) (sym (set_value_by_index test l v ∙ ap (λ o. option_map_or (λ j. with_value l j v) o l) at)) ∙ written_found test v l some

  -- After a write of the value at an index.
  pub updates_at : (l : List (K × V)) (i : ℕ) (v : V) → UpdatesAt i l (with_value l i v) v
  updates_at l i v = record {
    own = λ test at. own_value test l i v at;
    updates = λ eq test o respects at. updates_written_at eq o test respects l l (lookup_by test l) i v (updates_matched eq o test respects l) at;
    values = values_of_with_value l i v;
    keys = keeps_indices l (with_value l i v) (keys_of_with_value l i v);
  }
