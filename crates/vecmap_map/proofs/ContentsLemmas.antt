-- What a call leaves that appends a pair if a query matches nothing, and what is in a map of clones.
use Rattle.std.specs.{Cmp.IsEquivalence, Map.IsKeyTest}
use Rattle.std.proofs.Common.{arith, ◌≡◌, ◌∙◌, ◌++◌, ◌+◌, ℕ, Bool, true, List, [], ◌∷◌, None, Some, ap, if◌then◌else◌, is_some, length, refl, sym, true≢false, unwrap_or, ◌≤◌}
use Rattle.std.proofs.lemmas.{List.length-append, Map.Entries.entries_from_clone, Option.{none-some, slice_get_within}, Slice.Zip.AllZip-long}
use Rattle.vecmap_base.specs.{Clones.{ArePairClones, IsPairClone}, Pairs.{index_by, lookup_by, puts}}
use Rattle.vecmap_base.proofs.{IndexLemmas.slice_get_last, PairsLemmas.{AtIndices.{index_stays, match_at}, ByIndex.{index_by_appended, is_some_lookup_by}}}
use Rattle.vecmap_base.proofs.PairsLemmas.{ManyPairs.{lookup_by_append, makes_pairs}, Updates.{updates_appended_found, updates_matched, updates_written_at}}
use Rattle.vecmap_map.specs.{Contents.{Contents, FindsOrAppends}, MapBulk.MakesClones}

ruleset appended = (is_some_lookup_by, lookup_by_append, slice_get_last, index_by_appended, index_stays, length-append)

module _ {K V : Type 0} (eq : K → K → Bool) (o : IsEquivalence eq) (test : K → Bool) (respects : IsKeyTest eq test) (made : K × V → Type 0) where
  -- If a key matches, nothing changes.
  pub finds_match : (m : Contents K V) (i : ℕ) → index_by test m.entries ≡ Some i → FindsOrAppends eq test made m m i
  finds_match m i at =
      let some : is_some (lookup_by test m.entries) ≡ true = is_some_lookup_by test m.entries ∙ ap is_some at in
      let updates = updates_matched eq o test respects m.entries in
      let place = match_at test m.entries i at in
      record {
        found = at;
        within = slice_get_within m.entries i (place.0, place.1) place.2;
        at = place;
        unchanged = λ _. refl;
        appended = λ absent. absurd (none-some i (sym absent ∙ at));
        value = λ v absent only. absurd (true≢false (sym some ∙ ap is_some absent));
        pair = λ p absent only. absurd (true≢false (sym some ∙ ap is_some absent));
        index = at ∙ ap (λ found. Some (unwrap_or found (length m.entries))) (sym at);
        indices = λ other j found. found;
        len = ap (λ b. if b then length m.entries else length m.entries + 1) (sym some);
        updates = updates;
        written = λ v. updates_written_at eq o test respects m.entries m.entries (lookup_by test m.entries) i v updates at;
      }

  -- If none does, the pair that was made is appended.
  pub appends_made : (old new : Contents K V) (p : K × V) (i : ℕ) → index_by test old.entries ≡ None → test p.0 ≡ true → made p → new.entries ≡ old.entries ++ p ∷ [] → index_by test new.entries ≡ Some i → FindsOrAppends eq test made old new i
  appends_made old new p i miss hit did e at =
      let updates = updates_appended_found eq o test respects old.entries new.entries p e miss hit in
      let place = match_at test new.entries i at in
      record {
        found = at;
        within = slice_get_within new.entries i (place.0, place.1) place.2;
        at = place;
        unchanged = grind (arith, appended);
        appended = λ _. (p, did, e);
        value = grind (arith, appended);
        pair = grind (arith, appended);
        index = grind (arith, appended);
        indices = grind (arith, appended);
        len = grind (arith, appended);
        updates = updates;
        written = λ v. updates_written_at eq o test respects old.entries new.entries (lookup_by test new.entries) i v updates at;
      }

pub makes_clones : {K V : Type 0} (eq : K → K → Bool) (o : IsEquivalence eq) (key : K → K → Type 0) (value : V → V → Type 0) (pairs : List (K × V)) (m : Contents K V) (clones : List (K × V)) → ArePairClones key value pairs clones → m.entries ≡ puts eq [] clones → length pairs ≤ m.capacity → MakesClones eq key value pairs m
makes_clones eq o key value pairs m clones are e room =
    let made = makes_pairs eq o clones m.entries e in
    record {
      entries = (clones, are, e);
      same = λ keys values. makes_pairs eq o pairs m.entries (e ∙ ap (puts eq []) (entries_from_clone key value keys values pairs clones are));
      distinct = made.distinct;
      len = omega (arith, made.len, AllZip-long (IsPairClone key value) pairs clones are);
      capacity = room;
    }
