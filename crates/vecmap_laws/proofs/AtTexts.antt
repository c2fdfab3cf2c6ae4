-- The lemmas of the rulesets at texts: `grind` sees the `==` of texts as it computes, so it matches a lemma that is
-- stated of it, and not one of any `==`.
use Rattle.std.specs.{Borrow.Bor, Cmp.{nat_eq_equiv, on_equiv, Lexicographic.nat_list_eq_equiv}, Map.{set_value}, String.string_eq_equiv}
use Rattle.std.specs.{contracts.prelude.RefStrPartialEq.TheImpl.eq-value, declared.alloc.Global.Global}
use Rattle.std.proofs.Common.{◌≡◌, ◌∙◌, ℕ, Bool, List, String, bytes_eq, false, refl, string_eq, true, rules, None, Some, IsSome, IsTrue, eqb-true, if◌then◌else◌, nat_eq, subst, sym}
use Rattle.vecmap_base.specs.{Equality.has_same_counts, Pairs.{has_text, HasDistinctKeys, lookup, lookup_by, put, without_by}}
use Rattle.vecmap_base.specs.contracts.equivalent.RefStrEquivalent.TheImpl.{equivalent-value}
use Rattle.vecmap_base.proofs.PairsLemmas.Updates.{updates_write}
use Rattle.vecmap_laws.proofs.{LookupLemmas.lookup_without_apart, MapEquality.lookups_of_equal, PutLemmas.put_put}
use Rattle.vecmap_laws.proofs.QueryLemmas.{text_respects, texts_apart, lookup_written_other_text, lookup_put_any_query, lookup_without_query, same_texts, string_equality}

module _ {A V : Type 0} where
  pub put_put_of_texts : (l : List (String A × V)) (k : String A) (v w : V) → put string_eq (put string_eq l k v) k w ≡ put string_eq l k w
  put_put_of_texts = put_put string_eq string_eq_equiv

-- In equal maps from texts to numbers, each key has the same value.
pub lookups_of_equal_texts : {A : Type 0} (a b : List (String A × ℕ)) → IsTrue (has_same_counts string_eq nat_eq a b) → HasDistinctKeys string_eq a → HasDistinctKeys string_eq b → (q : String A) → lookup string_eq a q ≡ lookup string_eq b q
lookups_of_equal_texts = lookups_of_equal string_eq nat_eq string_eq_equiv nat_eq_equiv eqb-true

-- The same of queries by texts.
module _ {V : Type 0} (l : List (String Global × V)) (text : List ℕ) where
  pub text_put : (k : String Global) (v : V) → lookup_by (has_text text) (put string_eq l k v) ≡ (if has_text text k then Some v else lookup_by (has_text text) l)
  text_put k v = lookup_put_any_query string_eq string_equality (has_text text) (text_respects text) l k v

  pub text_without : (other : List ℕ) → HasDistinctKeys string_eq l → lookup_by (has_text text) (without_by (has_text other) l) ≡ (if bytes_eq other text then None else lookup_by (has_text text) l)
  text_without other d = search (rules, bytes_eq, same_texts, lookup_without_query, string_eq, string_equality, text_respects, lookup_without_apart, texts_apart)

  -- The other text finds a value, which is written.
  pub text_set : (other : List ℕ) (v : V) → IsSome (lookup_by (has_text other) l) → lookup_by (has_text text) (set_value (has_text other) l v) ≡ (if bytes_eq other text then Some v else lookup_by (has_text text) l)
  text_set other v some = by (bytes_eq other text) refl
    where
      by : (b : Bool) → bytes_eq other text ≡ b → lookup_by (has_text text) (set_value (has_text other) l v) ≡ (if b then Some v else lookup_by (has_text text) l)
      by true e = subst (λ t. lookup_by (has_text t) (set_value (has_text other) l v) ≡ Some v) (same_texts other text e) (updates_write string_eq string_equality (has_text other) (text_respects other) l v some).own
      by false n = lookup_written_other_text (record { entries = l; capacity = 0 }) other text v n

-- The same of keys `&str`. `grind` knows their `==`, and the test of a query, by the names of the impls.
module _ {V : Type 0} (l : List (Bor (List ℕ) × V)) (text : List ℕ) where
  pub str_put : (k : Bor (List ℕ)) (v : V) → lookup_by (λ b. bytes_eq text b.now) (put eq-value.it l k v) ≡ (if bytes_eq text k.now then Some v else lookup_by (λ b. bytes_eq text b.now) l)
  str_put k v = lookup_put_any_query eq-value.it (on_equiv (λ (b : Bor (List ℕ)). b.now) nat_list_eq_equiv) (λ b. bytes_eq text b.now) (λ x y. nat_list_eq_equiv.congr text x.now y.now) l k v

  pub str_without_other : (other : Bor (List ℕ)) → bytes_eq other.now text ≡ false → lookup_by (λ b. bytes_eq text b.now) (without_by (equivalent-value.it other) l) ≡ lookup_by (λ b. bytes_eq text b.now) l
  str_without_other other n = lookup_without_apart (equivalent-value.it other) (λ b. bytes_eq text b.now) (λ k h. nat_list_eq_equiv.symm text k.now ∙ sym (nat_list_eq_equiv.congr other.now k.now text h) ∙ n) l

-- Premises name two texts in either order.
pub bytes_symm : (text other : List ℕ) → bytes_eq text other ≡ bytes_eq other text
bytes_symm = nat_list_eq_equiv.symm

-- What texts find after calls.
pub ruleset texts = (text_put, text_without, text_set, str_put, str_without_other, bytes_symm)
