-- What a query finds that matches exactly the keys that are equal to one of its matches, such as a text, also after a
-- write of the value. The idea: the write is `put` of any key that the query matches, so the lemmas on `put` hold.
use Rattle.std.specs.{Cmp.{IsEquivalence, on_equiv, Lexicographic.nat_list_eq_equiv}, Map.{IsKeyTest, set_value}, Option.option_map_or}
use Rattle.std.specs.declared.alloc.Global.{Global}
use Rattle.std.proofs.Common.{Bool, IsTrue, List, None, Some, String, ap, bytes_eq, false, if◌then◌else◌, refl, string_bytes, string_eq, true, ℕ, ◌∙◌, ◌≡◌, arith, suc, zero, slice_get, slice_set, [], ◌∷◌, IsSome, sym, subst}
use Rattle.std.proofs.lemmas.{Map.Steps.set_value_same, Option.{none-some, same_Some}, Slice.Eq.bytes_eq-Decides}
use Rattle.vecmap_base.specs.Pairs.{HasDistinctKeys, has_text, lookup_by, put, without_by, index_by, index_of, lookup, with_value}
use Rattle.vecmap_base.proofs.PairsLemmas.{ByIndex.{is_some_lookup_by, put_by_index, set_value_by_index}, LookupsAfterChanges.{lookup_by_put, compares_with}}
use Rattle.vecmap_base.proofs.PairsLemmas.Updates.{updates_of_without, updates_write}
use Rattle.vecmap_map.specs.Contents.{Contents, with_entries, with_value_of, with_value_by}

module _ {K V : Type 0} (eq : K → K → Bool) (o : IsEquivalence eq) (test : K → Bool) (respects : IsKeyTest eq test) where
  -- After the removal of its match from a list of distinct keys, the query matches nothing.
  pub lookup_without_query : (l : List (K × V)) → HasDistinctKeys eq l → lookup_by test (without_by test l) ≡ None
  lookup_without_query l d = (updates_of_without eq o test respects l (without_by test l) refl d).own

  -- After an insertion, the query finds the value if it matches the key, and otherwise what it found before.
  pub lookup_put_any_query : (l : List (K × V)) (k : K) (v : V) → lookup_by test (put eq l k v) ≡ (if test k then Some v else lookup_by test l)
  lookup_put_any_query l k v = lookup_by_put eq o test respects l k v

  -- After the insertion of a key that matches, the query finds the value.
  pub lookup_put_query : (l : List (K × V)) (k : K) (v : V) → IsTrue (test k) → lookup_by test (put eq l k v) ≡ Some v
  lookup_put_query l k v h = lookup_put_any_query l k v ∙ ap (λ b. if b then Some v else lookup_by test l) h

  -- After the insertion of any other key, the query finds what it found before.
  pub lookup_put_other_query : (l : List (K × V)) (k : K) (v : V) → test k ≡ false → lookup_by test (put eq l k v) ≡ lookup_by test l
  lookup_put_other_query l k v n = lookup_put_any_query l k v ∙ ap (λ b. if b then Some v else lookup_by test l) n

-- A text matches the strings with the same bytes.
pub text_respects : (text : List ℕ) → IsKeyTest {K = String Global} string_eq (has_text text)
text_respects text x y h = nat_list_eq_equiv.congr text (string_bytes x) (string_bytes y) h

pub same_text : (text : List ℕ) (x : String Global) → string_bytes x ≡ text → IsTrue (has_text text x)
same_text text x e = ap (bytes_eq text) e ∙ nat_list_eq_equiv.refl text

pub string_equality : IsEquivalence {K = String Global} string_eq
string_equality = on_equiv string_bytes nat_list_eq_equiv

-- Texts whose bytes are equal are the same.
pub same_texts : (text other : List ℕ) → bytes_eq text other ≡ true → text ≡ other
same_texts text other = (bytes_eq-Decides text other).0

module _ {K V : Type 0} (eq : K → K → Bool) where
  -- A write of the value of a key that is present is `put`.
  pub with_value_of_is_put : (m : Contents K V) (k : K) (v : V) → IsSome (index_of eq m.entries k) → (with_value_of eq m k v).entries ≡ put eq m.entries k v
  with_value_of_is_put m k v h = grind (arith, set_value_by_index, put_by_index)

-- A query that matches none of the keys that a write matches finds what it found before.
lookup_set_value_apart : {K V : Type 0} (test other : K → Bool) → ((k : K) → IsTrue (test k) → other k ≡ false) → (l : List (K × V)) (v : V) → lookup_by other (set_value test l v) ≡ lookup_by other l
lookup_set_value_apart test other apart [] v = refl
lookup_set_value_apart {K} {V} test other apart (p ∷ ps) v = by (test p.0) refl (lookup_set_value_apart test other apart ps v)
  where
    by : (b : Bool) → test p.0 ≡ b → lookup_by other (set_value test ps v) ≡ lookup_by other ps → lookup_by other (if b then (p.0, v) ∷ ps else p ∷ set_value test ps v) ≡ lookup_by other (p ∷ ps)
    by true e more = (λ t. if apart p.0 e t then Some v else lookup_by other ps) ∙ sym (λ t. if apart p.0 e t then Some p.1 else lookup_by other ps)
    by false e more = ap (λ found. if other p.0 then Some p.1 else found) more

-- A write of the value that a test finds changes nothing.
pub written_back : {K V : Type 0} (test : K → Bool) (m : Contents K V) (v : V) → lookup_by test m.entries ≡ Some v → with_value_by test m v ≡ m
written_back test m v e = ap (with_entries m) (set_value_same test m.entries v e)

module _ {K V : Type 0} (eq : K → K → Bool) (o : IsEquivalence eq) (test : K → Bool) (respects : IsKeyTest eq test) where
  -- A write of the value that a query finds is `put` of each key that the query matches.
  pub with_value_by_is_put : (m : Contents K V) (k : K) (v : V) → IsTrue (test k) → IsSome (index_by test m.entries) → (with_value_by test m v).entries ≡ put eq m.entries k v
  with_value_by_is_put m k v h there =
      let same = compares_with eq o test respects k h in
      ap (λ f. (with_value_by f m v).entries) same ∙ with_value_of_is_put eq m k v (subst (λ f. IsSome (index_by f m.entries)) same there)

  -- The query finds the written value.
  pub lookup_written : (m : Contents K V) (v : V) → IsSome (index_by test m.entries) → lookup_by test (with_value_by test m v).entries ≡ Some v
  lookup_written m v there = (updates_write eq o test respects m.entries v (is_some_lookup_by test m.entries ∙ there)).own

  -- A query that matches no such key finds what it found before.
  pub lookup_written_other_query : (other : K → Bool) → IsKeyTest eq other → ((k : K) → IsTrue (test k) → other k ≡ false) → (m : Contents K V) (v : V) → lookup_by other (with_value_by test m v).entries ≡ lookup_by other m.entries
  lookup_written_other_query other respects_other apart m v = lookup_set_value_apart test other apart m.entries v

-- Two texts of different bytes match no string in common.
pub texts_apart : (text other : List ℕ) → bytes_eq text other ≡ false → (k : String Global) → IsTrue (has_text text k) → has_text other k ≡ false
texts_apart text other n k h = nat_list_eq_equiv.symm other (string_bytes k) ∙ sym (nat_list_eq_equiv.congr text (string_bytes k) other h) ∙ n

module _ {V : Type 0} where
  -- After a write by a text, other texts find what they found before.
  pub lookup_written_other_text : (m : Contents (String Global) V) (text other : List ℕ) (v : V) → bytes_eq text other ≡ false → lookup_by (has_text other) (with_value_by (has_text text) m v).entries ≡ lookup_by (has_text other) m.entries
  lookup_written_other_text m text other v n = lookup_written_other_query string_eq string_equality (has_text text) (text_respects text) (has_text other) (text_respects other) (texts_apart text other n) m v

module _ {K V : Type 0} (eq : K → K → Bool) where
  lookup_set_other : (l : List (K × V)) (i : ℕ) (v : V) (p : K × V) (q : K) → slice_get l i ≡ Some p → eq q p.0 ≡ false → lookup eq (slice_set l i (p.0, v)) q ≡ lookup eq l q
  lookup_set_other [] i v p q at n = absurd (none-some p at)
  lookup_set_other (x ∷ xs) zero v p q at n = grind (arith, same_Some)
  lookup_set_other (x ∷ xs) (suc i) v p q at n = ap (λ found. if eq q x.0 then Some x.1 else found) (lookup_set_other xs i v p q at n)

  -- After a write at an index, other keys find what they found before.
  pub lookup_written_at : IsEquivalence eq → (l : List (K × V)) (i : ℕ) (v : V) (p : K × V) (q : K) → slice_get l i ≡ Some p → eq p.0 q ≡ false → lookup eq (with_value l i v) q ≡ lookup eq l q
  lookup_written_at o l i v p q at n = ap (λ found. lookup eq (option_map_or (λ x. slice_set l i (x.0, v)) found l) q) at ∙ lookup_set_other l i v p q at (o.symm q p.0 ∙ n)
