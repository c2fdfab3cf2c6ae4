-- A write through the entry of a key is an insertion of the key, and a removal through it is a removal of the key. What
-- is then found is known of items, by induction on the list. A written pair keeps its key, so each fact on pairs is one
-- on items.
use Rattle.std.specs.{List.swap_remove, Option.{option_map_or, option_map, option_and_then}}
use Rattle.std.proofs.Common.{◌≡◌, ℕ, zero, suc, ◌<◌, List, [], ◌∷◌, ◌++◌, Some, ap, arith, length, refl, remove, set, slice_get, sym, ◌∙◌, Bool}
use Rattle.std.proofs.{Math.{Bridge.le_prop, Nat.{eq-or-lt_of_le}}, lemmas.List.{get_or-set_other, get_or_default, length-set, set-set, take-set-le}}
use Rattle.vecmap_base.specs.{Items.swap_without, Pairs.{value_at, with_value, index_of, lookup, put, swap_without_by, without_by}}
use Rattle.vecmap_base.proofs.PairsLemmas.ByIndex.{lookup_by_index, put_by_index, without_by_index}
pub use Rattle.vecmap_base.proofs.IndexLemmas.{slice_get_last}
use Rattle.vecmap_map.specs.Contents.{with_value_at, Contents}
use Rattle.vecmap_map.specs.Entry.{LeavesSame, occupied_with, entries_swap_without, entries_with, entries_without, entry_index_of, entry_key, entry_map, entry_value}
use Rattle.vecmap_map.specs.{EntryWithin.still_within, declared.entry.{Entry.{Entry, TheVariants.{Occupied}}, occupied.OccupiedEntry.OccupiedEntry}}

module _ {X : Type 0} where
  pub item_there : (l : List X) (i : ℕ) → i < length l → (x : X) × (slice_get l i ≡ Some x)
  item_there [] i h = absurd (omega arith)
  item_there (x ∷ l) zero h = (x, refl)
  item_there (x ∷ l) (suc i) h = item_there l i (omega arith)

  pub slice_get_set : (l : List X) (i : ℕ) (x : X) → i < length l → slice_get (set l i x) i ≡ Some x
  slice_get_set [] i x h = absurd (omega arith)
  slice_get_set (y ∷ l) zero x h = refl
  slice_get_set (y ∷ l) (suc i) x h = slice_get_set l i x (omega arith)

  pub remove_set : (l : List X) (i : ℕ) (x : X) → remove (set l i x) i ≡ remove l i
  remove_set [] i x = refl
  remove_set (y ∷ l) zero x = refl
  remove_set (y ∷ l) (suc i) x = ap (λ m. y ∷ m) (remove_set l i x)

  swap_remove-set : (l : List X) (i : ℕ) (x y : X) → i < length l → swap_remove (set l i x) i x ≡ swap_remove l i y
  swap_remove-set l i x y h = grind (arith, length-set, set-set, eq-or-lt_of_le, take-set-le, get_or-set_other, get_or_default)

  pub swap_without_set : (l : List X) (i : ℕ) (x : X) → i < length l → swap_without (set l i x) i ≡ swap_without l i
  swap_without_set l i x h =
      let there = item_there l i h in
      ap (λ o. option_map_or (λ z. swap_remove (set l i x) i z) o (set l i x)) (slice_get_set l i x h) ∙ swap_remove-set l i x there.0 h
      ∙ sym (ap (λ o. option_map_or (λ z. swap_remove l i z) o l) there.1)

  pub set_last : (l : List X) (x y : X) → set (l ++ x ∷ []) (length l) y ≡ l ++ y ∷ []
  set_last [] x y = refl
  set_last (z ∷ l) x y = ap (λ m. z ∷ m) (set_last l x y)

-- A pair that was appended.
module _ {K V : Type 0} (l : List (K × V)) (p : K × V) where
  pub value_last : value_at (l ++ p ∷ []) (length l) ≡ Some p.1
  value_last = ap (option_map (λ q. q.1)) (slice_get_last l p)

  pub with_value_last : (v : V) → with_value (l ++ p ∷ []) (length l) v ≡ l ++ (p.0, v) ∷ []
  with_value_last v = ap (λ o. option_map_or (λ q. set (l ++ p ∷ []) (length l) (q.0, v)) o (l ++ p ∷ [])) (slice_get_last l p) ∙ set_last l p (p.0, v)

-- A value that was written.
module _ {K V : Type 0} (l : List (K × V)) (i : ℕ) (h : i < length l) where
  there : (p : K × V) × (slice_get l i ≡ Some p)
  there = item_there l i h

  written : (v : V) → with_value l i v ≡ set l i (there.0.0, v)
  written v = ap (λ o. option_map_or (λ q. set l i (q.0, v)) o l) there.1

  slice_get_written : (v : V) → slice_get (with_value l i v) i ≡ Some (there.0.0, v)
  slice_get_written v = ap (λ m. slice_get m i) (written v) ∙ slice_get_set l i (there.0.0, v) h

  pub value_at_written : (v : V) → value_at (with_value l i v) i ≡ Some v
  value_at_written v = ap (option_map (λ q. q.1)) (slice_get_written v)

  pub with_value_twice : (v w : V) → with_value (with_value l i v) i w ≡ with_value l i w
  with_value_twice v w = grind (arith, slice_get_written, there, written, set-set)

  pub remove_written : (v : V) → remove (with_value l i v) i ≡ remove l i
  remove_written v = ap (λ m. remove m i) (written v) ∙ remove_set l i (there.0.0, v)

  pub swap_without_written : (v : V) → swap_without (with_value l i v) i ≡ swap_without l i
  swap_without_written v = ap (λ m. swap_without m i) (written v) ∙ swap_without_set l i (there.0.0, v) h

module _ {K V : Type 0} (o : OccupiedEntry K V) (v : V) where
  -- Two entries are equal if their maps are.
  pub occupied_written : (h : o.index < length (with_value o.map.now.entries o.index v)) → record o { map = record o.map { now = with_value_at o.map.now o.index v }; within = h } ≡ occupied_with o v
  occupied_written h = ap (λ q. record o { map = record o.map { now = with_value_at o.map.now o.index v }; within = q }) (le_prop h (still_within o v))

  pub leaves_same : LeavesSame (Occupied o) (Occupied (occupied_with o v))
  leaves_same = grind (arith, with_value_twice, remove_written, swap_without_written)

module _ {K V : Type 0} (eq : K → K → Bool) where
  pub entries_with_put : (e : Entry K V) (m : Contents K V) (k : K) (v : V) → entry_map e ≡ m → entry_key e ≡ k → entry_index_of e ≡ index_of eq m.entries k → entries_with e v ≡ put eq m.entries k v
  entries_with_put e m k v map key index =
      (λ j. option_map_or (λ i. with_value (map j).entries i v) (index j) ((map j).entries ++ (key j, v) ∷ [])) ∙ sym (put_by_index eq m.entries k v)

  pub entries_without_by : (e : Entry K V) (m : Contents K V) (k : K) → entry_map e ≡ m → entry_index_of e ≡ index_of eq m.entries k → entries_without e ≡ without_by (eq k) m.entries
  entries_without_by e m k map index = (λ j. option_map_or (remove (map j).entries) (index j) (map j).entries) ∙ sym (without_by_index (eq k) m.entries)

  pub entries_swap_without_by : (e : Entry K V) (m : Contents K V) (k : K) → entry_map e ≡ m → entry_index_of e ≡ index_of eq m.entries k → entries_swap_without e ≡ swap_without_by (eq k) m.entries
  entries_swap_without_by e m k map index = λ j. option_map_or (swap_without (map j).entries) (index j) (map j).entries

  pub entry_value_is : (e : Entry K V) (m : Contents K V) (k : K) → entry_map e ≡ m → entry_index_of e ≡ index_of eq m.entries k → entry_value e ≡ lookup eq m.entries k
  entry_value_is e m k map index = (λ j. option_and_then (value_at (map j).entries) (index j)) ∙ sym (lookup_by_index (eq k) m.entries)
