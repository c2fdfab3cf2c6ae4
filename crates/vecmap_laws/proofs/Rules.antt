-- Lemmas for common goals, in lists that a function names by `using(vecmap_laws::proofs::Rules::..)`.
use Rattle.std.specs.{Prelude.{◌≡◌, Bool, List, []}, List.IsDistinct}
use Rattle.std.proofs.{Common.{subst, sym}, lemmas.Map.Steps.lookup-le-sum}
use Rattle.vecmap_base.specs.Pairs.{HasDistinctKeys}
use Rattle.vecmap_base.proofs.{DistinctLemmas.{distinct_none, distinct_add, distinct_adds}, ItemsLemmas.Members.is_member_adds}
use Rattle.vecmap_base.proofs.PairsLemmas.{Keys.{keys_of_put, keys_of_puts}, LookupsAfterChanges.{distinct_keys_remove, distinct_put}, Updates.distinct_put_key}
use Rattle.vecmap_base.proofs.PairsLemmas.Values.{key_stays}
use Rattle.vecmap_laws.proofs.AfterPuts.{index_of_congr, index_of_put, lookup_put_any, lookup_puts_distinct, lookup_without_any, index_by_take}
use Rattle.vecmap_laws.proofs.AlgebraLemmas.{is_member_of_collected, number_parts_add}
use Rattle.vecmap_laws.proofs.AtNumbers.{absent_among_numbers, lookup_written_at_of_numbers, lookups_of_equal_numbers, put_put_of_numbers, restored_of_numbers}
use Rattle.vecmap_laws.proofs.AtTexts.{lookups_of_equal_texts, put_put_of_texts}
use Rattle.vecmap_laws.proofs.DistinctKeys.{distinct_keys_swap_without_key, distinct_keys_take, distinct_put_at, distinct_puts, distinct_keys_drop, distinct_keys_filter}
use Rattle.vecmap_laws.proofs.EachPair.{all_without, filter_without, same_values, holds_after_put}
use Rattle.vecmap_laws.proofs.Finds.{distinct_keys_reverse, distinct_swapped, distinct_without_key, is_member_swap_without, is_member_without, lookup_drop, lookup_put_at_any, lookup_put_key_any, lookup_reverse, lookup_swap, lookup_swap_without_key, lookup_swapped, lookup_take, present}
use Rattle.vecmap_laws.proofs.ItemLemmas.{item_index_add, slice_get_add, is_member_add}
use Rattle.vecmap_laws.proofs.LookupLemmas.{lookup_without_key_other, absent_among, absent_before, new_above}
use Rattle.vecmap_laws.proofs.LoopLemmas.{keys_written, element_taken, is_key_of_numbers, key_taken, number_taken, taken_matches}
use Rattle.vecmap_laws.proofs.{MapEquality.{clones_equal, equal_to_itself, equal_to_itself_at_numbers, same_clones}, PutLemmas.{put_put, puts_restore}}
use Rattle.vecmap_laws.proofs.QueryLemmas.{written_back, lookup_put_any_query}
use Rattle.vecmap_laws.proofs.SearchedMaps.{inserted_new, search_finds, search_finds_at_numbers, sorted_after, sorted_after_at_numbers}
use Rattle.vecmap_laws.proofs.{Sums.{sum_put_of_numbers, sum_without_of_numbers}, Undone.undone_at_numbers}
pub use Rattle.vecmap_laws.proofs.AtNumbers.{lookups_at_numbers, members_at_numbers}
pub use Rattle.vecmap_laws.proofs.AtTexts.{texts}

-- An empty list has no two equal keys.
pub distinct_empty : {K V : Type 0} (eq : K → K → Bool) (l : List (K × V)) → l ≡ [] → HasDistinctKeys eq l
distinct_empty eq l e = subst (HasDistinctKeys eq) (sym e) (distinct_none eq)

-- The keys after an insertion and after many.
pub ruleset keys = (keys_of_put, keys_of_puts)

-- The keys of pairs whose values a loop writes.
pub ruleset keys_in_loops = (key_stays, keys_written)

-- The keys are distinct in an empty list, after an insertion and after many.
pub ruleset distinct_keys = (distinct_empty, distinct_put, distinct_puts)

-- An empty list has no two equal elements.
pub distinct_no_elements : {T : Type 0} (eq : T → T → Bool) (s : List T) → s ≡ [] → IsDistinct eq s
distinct_no_elements eq s e = subst (IsDistinct eq) (sym e) (distinct_none eq)

-- The indices of elements after an addition, which moves no element.
pub ruleset elements = (item_index_add, slice_get_add)

-- The elements are distinct in an empty list, after an addition and after many.
pub ruleset distinct_elements = (distinct_no_elements, distinct_add, distinct_adds)

-- After calls that change one key.
pub ruleset of_one_key = (lookup_put_any, lookup_without_any, lookup_without_key_other, lookup_swap_without_key, present, distinct_put, distinct_without_key, distinct_keys_swap_without_key)

-- After sorts, and after swaps of two pairs.
pub ruleset of_orders = (lookup_swapped, lookup_swap, lookup_reverse, distinct_swapped, distinct_keys_reverse)

-- After many insertions.
pub ruleset of_many = (lookup_puts_distinct, puts_restore, distinct_puts)

-- In parts of the list.
pub ruleset of_parts = (lookup_take, lookup_drop, distinct_keys_take, distinct_keys_drop)

-- After insertions that store the key or choose the index.
pub ruleset of_places = (lookup_put_key_any, lookup_put_at_any, distinct_put_key, distinct_put_at)

-- All of these: what lookups find after calls.
pub ruleset lookups = (of_one_key, of_orders, of_many, of_parts, of_places)

-- Which elements are present in a set.
pub ruleset members = (is_member_add, is_member_adds, is_member_without, is_member_swap_without)

-- Changes of one key, one after the other.
pub ruleset puts = (put_put)

pub ruleset puts_at_numbers = (put_put_of_numbers, restored_of_numbers)

pub ruleset puts_at_texts = (put_put_of_texts)

-- At which indices keys are found after an insertion and in the front of the list.
pub ruleset indices = (index_of_put, index_by_take, index_of_congr)

-- The keys stay distinct after each of these calls.
pub ruleset distinct = (distinct_keys, distinct_put_key, distinct_put_at, distinct_without_key, distinct_keys_swap_without_key, distinct_keys_take, distinct_keys_drop, distinct_keys_reverse, distinct_swapped, distinct_keys_remove, distinct_keys_filter)

-- Binary searches of maps whose keys ascend, and insertions where they end.
pub ruleset sorted = (search_finds, sorted_after, inserted_new)

pub ruleset sorted_at_numbers = (search_finds_at_numbers, sorted_after_at_numbers)

-- Equality of clones.
pub ruleset clones = (clones_equal, same_clones, equal_to_itself)

pub ruleset clones_at_numbers = (same_clones, equal_to_itself_at_numbers)

-- Which elements `^` makes of two sets that were collected.
pub ruleset collected = (is_member_of_collected)

-- A new key: a number above all keys, and a key that comes later in a list of distinct keys, or in that of another map.
pub ruleset new_keys = (new_above, absent_before, absent_among, absent_among_numbers)

-- What holds of each pair, which pairs a test selects, and what a function tells of the values, after a change of one
-- pair. A value is at most the sum.
pub ruleset each = (all_without, filter_without, holds_after_put, lookup-le-sum, same_values, written_back)

-- What lookups find in equal maps.
pub ruleset equal_at_numbers = (lookups_of_equal_numbers)

pub ruleset equal_at_texts = (lookups_of_equal_texts)

-- After a write at an index.
pub ruleset written_at_numbers = (lookup_written_at_of_numbers)

-- The item that a loop over an iterator takes.
pub ruleset in_loops = (element_taken, is_key_of_numbers, key_taken, number_taken, taken_matches)

-- A change that is taken back, at numbers.
pub ruleset undone = (undone_at_numbers)

-- The sum of the values after a change.
pub ruleset sums = (sum_put_of_numbers, sum_without_of_numbers)

-- The lists above in one, for a whole crate. Of `sorted` and `clones` it has only the lists at numbers, and of `puts` only
-- those at numbers and at texts.
pub ruleset common = (new_keys, each, equal_at_numbers, equal_at_texts, sorted_at_numbers, puts_at_numbers, puts_at_texts, clones_at_numbers, lookups, members, lookup_put_any_query, collected, distinct, distinct_elements, elements, indices, keys, keys_in_loops, texts, in_loops, undone, sums, written_at_numbers, number_parts_add)
