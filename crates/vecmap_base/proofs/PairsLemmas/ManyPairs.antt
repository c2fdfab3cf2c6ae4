-- What lookups find in the front of a list, after the insertions of many pairs, and whether anything matches in another order.
use Rattle.std.specs.{Cmp.IsEquivalence, List.IsDistinct, List.Sorted.IsPermutation, Map.{IsKeyTest, keys_of}, Option.option_or}
use Rattle.std.proofs.Common.{◌≡◌, ◌∙◌, ℕ, zero, suc, Bool, true, false, List, [], ◌∷◌, ◌++◌, None, Option, Some, ap, arith, cond, if◌then◌else◌, is_some, length, nat_lt, option_map, refl, subst, sym, take, unwrap_or}
use Rattle.std.proofs.{lemmas.Bool.{cases_Bool, Decides.nat_tests}, lemmas.List.{length-take, map-append, take-map, append-nil, append_assoc}}
use Rattle.std.proofs.{lemmas.List.Sorted.{list_any-IsPermutation, IsPermutation-append_comm}, lemmas.Map.lookup-none}
use Rattle.std.proofs.{lemmas.Map.Entries.none_past_head, lemmas.Map.Keys.IsDistinct-tail}
use Rattle.vecmap_base.specs.{Lookups.{Joins, KeepsFront, MakesPairs}, Pairs.{HasDistinctKeys, index_by, lookup_by, put, puts}}
use Rattle.vecmap_base.proofs.{DistinctLemmas.{distinct_none, distinct_front, distinct_take}, IndexLemmas.is_some_position, InsertionLemmas.indices_put}
use Rattle.vecmap_base.proofs.PairsLemmas.{AtIndices.index_in_front, ByIndex.{index_by_is, index_by_none}}
use Rattle.vecmap_base.proofs.PairsLemmas.LookupsAfterChanges.{distinct_keys_rearranged, distinct_put, compares_with, lookup_by_put}
use Rattle.vecmap_base.proofs.PairsLemmas.Puts.{length_puts_at_most, length_puts_least, put_absent, puts_not_empty}

module _ {K V : Type 0} (test : K → Bool) where
  -- A lookup in a list of two parts finds what the first part has, or else what the second has.
  pub lookup_by_append : (a b : List (K × V)) → lookup_by test (a ++ b) ≡ option_or (lookup_by test a) (lookup_by test b)
  lookup_by_append [] b = grind (arith)
  lookup_by_append (p ∷ ps) b = grind (arith, (lookup_by_append ps b))

  -- In the front, a query finds what it found if its match is there.
  pub lookup_by_take : (l : List (K × V)) (n : ℕ) → lookup_by test (take n l) ≡ (if nat_lt (unwrap_or (index_by test l) (length l)) n then lookup_by test l else None)
  lookup_by_take l zero = grind (arith, nat_tests)
  lookup_by_take [] (suc n) = grind (arith, cases_Bool)
  lookup_by_take (p ∷ ps) (suc n) = by (test p.0) (index_by test ps) (lookup_by_take ps n)
    where
      by : (b : Bool) (i : Option ℕ) → lookup_by test (take n ps) ≡ (if nat_lt (unwrap_or i (length ps)) n then lookup_by test ps else None)
          → cond b (Some p.1) (lookup_by test (take n ps)) ≡ (if nat_lt (unwrap_or (if b then Some 0 else option_map suc i) (suc (length ps))) (suc n) then cond b (Some p.1) (lookup_by test ps) else None)
      by true i e = grind (arith, nat_tests)
      by false None e = grind (arith, nat_tests)
      by false (Some i) e = grind (arith, nat_tests)

  -- In another order, a query matches a key exactly if it did.
  pub matches_rearranged : (l m : List (K × V)) → IsPermutation l m → is_some (index_by test m) ≡ is_some (index_by test l)
  matches_rearranged l m moved = grind (arith, list_any-IsPermutation, index_by_is, is_some_position)

module _ {K V : Type 0} where
  pub keeps_front : (n : ℕ) (l : List (K × V)) → KeepsFront n l (take n l)
  keeps_front n l = record {
    entries = refl;
    lookups = λ test. lookup_by_take test l n;
    distinct = λ eq d. subst (IsDistinct eq) (take-map (λ p. p.0) n l) (distinct_take eq n (keys_of l) d);
    indices = λ test. index_in_front test n l;
    keys = sym (take-map (λ p. p.0) n l);
    values = sym (take-map (λ p. p.1) n l);
    len = length-take n l;
  }

  -- The same of a list that is known to be the front.
  pub keeps_front_of : (n : ℕ) (l m : List (K × V)) → m ≡ take n l → KeepsFront n l m
  keeps_front_of n l m e = subst (KeepsFront n l) (sym e) (keeps_front n l)

module _ {K V : Type 0} (eq : K → K → Bool) (o : IsEquivalence eq) where
  -- After insertions of pairs with distinct keys, a query finds what it finds in them, or else what it found.
  pub found_in_either : (test : K → Bool) → IsKeyTest eq test → (l pairs : List (K × V)) → HasDistinctKeys eq pairs → lookup_by test (puts eq l pairs) ≡ option_or (lookup_by test pairs) (lookup_by test l)
  found_in_either test respects l [] d = refl
  found_in_either test respects l (p ∷ ps) d =
      found_in_either test respects (put eq l p.0 p.1) ps (IsDistinct-tail eq p.0 _ d) ∙ ap (option_or (lookup_by test ps)) (lookup_by_put eq o test respects l p.0 p.1) ∙ by (test p.0) refl
    where
      by : (b : Bool) → test p.0 ≡ b → option_or (lookup_by test ps) (cond b (Some p.1) (lookup_by test l)) ≡ option_or (cond b (Some p.1) (lookup_by test ps)) (lookup_by test l)
      by true e = ap (λ found. option_or found (Some p.1)) (subst (λ t. lookup_by t ps ≡ None) (sym (compares_with eq o test respects p.0 e)) (lookup-none (eq p.0) ps (none_past_head o p.0 p ps d (o.refl p.0))))
      by false e = refl

  distinct_after : (l pairs : List (K × V)) → HasDistinctKeys eq l → HasDistinctKeys eq (puts eq l pairs)
  distinct_after l [] d = d
  distinct_after l (p ∷ ps) d = distinct_after (put eq l p.0 p.1) ps (distinct_put eq o l p.0 p.1 d)

  indices_after : (test : K → Bool) (l pairs : List (K × V)) (i : ℕ) → index_by test l ≡ Some i → index_by test (puts eq l pairs) ≡ Some i
  indices_after test l [] i e = e
  indices_after test l (p ∷ ps) i e = indices_after test (put eq l p.0 p.1) ps i (indices_put eq test l p.0 p.1 i e)

  -- Pairs whose keys are new and distinct are appended.
  pub puts_apart : (l m : List (K × V)) → HasDistinctKeys eq (l ++ m) → puts eq l m ≡ l ++ m
  puts_apart l [] d = sym (append-nil l)
  puts_apart l (p ∷ ps) d =
      let moved : (l ++ p ∷ []) ++ ps ≡ l ++ p ∷ ps = append_assoc l (p ∷ []) ps in
      let whole : HasDistinctKeys eq ((l ++ p ∷ []) ++ ps) = subst (HasDistinctKeys eq) (sym moved) d in
      let front : HasDistinctKeys eq (l ++ p ∷ []) = distinct_front eq (keys_of (l ++ p ∷ [])) (keys_of ps) (subst (IsDistinct eq) (map-append (λ r. r.0) (l ++ p ∷ []) ps) whole) in
      let first : HasDistinctKeys eq (p ∷ l) = distinct_keys_rearranged eq o (l ++ p ∷ []) (p ∷ l) (IsPermutation-append_comm l (p ∷ [])) front in
      let absent = index_by_none (eq p.0) l (lookup-none (eq p.0) l (none_past_head o p.0 p l first (o.refl p.0))) in
      ap (λ r. puts eq r ps) (put_absent eq l p.0 p.1 absent) ∙ puts_apart (l ++ p ∷ []) ps whole ∙ moved

  -- A list of distinct keys has no duplicates, so its insertions into the empty list make the list itself.
  pub puts_distinct : (l : List (K × V)) → HasDistinctKeys eq l → puts eq [] l ≡ l
  puts_distinct l d = puts_apart [] l d

  -- After the insertions of many pairs.
  pub joins_of_puts : (l pairs m : List (K × V)) → m ≡ puts eq l pairs → Joins eq l pairs m
  joins_of_puts l pairs m e =
      subst (Joins eq l pairs) (sym e) (record {
        entries = refl;
        lookups = λ d q. found_in_either (eq q) (o.congr q) l pairs d;
        queries = λ test respects. found_in_either test respects l pairs;
        distinct = distinct_after l pairs;
        indices = λ test. indices_after test l pairs;
        len = (length_puts_least eq l pairs, length_puts_at_most eq l pairs);
        not_empty = puts_not_empty eq l pairs;
        joined = λ whole both d. puts_apart l pairs (subst (HasDistinctKeys eq) (sym both) d) ∙ both;
      })

  -- The same of the empty list.
  pub makes_pairs : (pairs m : List (K × V)) → m ≡ puts eq [] pairs → MakesPairs eq pairs m
  makes_pairs pairs m e =
      let joined = joins_of_puts [] pairs m e in
      record { entries = e; as_given = λ d. e ∙ puts_distinct pairs d; distinct = joined.distinct (distinct_none eq); len = omega (arith, joined.len.1); not_empty = joined.not_empty }
