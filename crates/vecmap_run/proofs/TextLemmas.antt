-- A text that is found belongs to a stored key, and what is written there is an insertion of this key.
use Rattle.std.specs.{Map.set_value, declared.alloc.Global.Global}
use Rattle.std.proofs.Common.{arith, ◌≡◌, ℕ, ℤ, Bool, List, [], ◌∷◌, Some, String, ap, false, if◌then◌else◌, is_some, refl, string_bytes, string_eq, subst, sym, true, unwrap_or, ◌∙◌}
use Rattle.std.proofs.{lemmas.Option.none-some, lemmas.Slice.Eq.bytes_eq-Decides}
use Rattle.vecmap.specs.Pairs.{has_text, index_of, lookup, lookup_by, put}
use Rattle.vecmap_base.proofs.{PairsLemmas.ByIndex.{is_some_lookup_by, put_by_index, set_value_by_index}, PairsLemmas.Puts.put_stored}
use Rattle.vecmap_run.specs.CommandSteps.{Entries}

-- If a text finds a value, a stored key has this text.
pub stored_key : (text : List ℕ) (l : Entries) (v : ℤ) → lookup_by (has_text text) l ≡ Some v → (key : String Global) × (string_bytes key ≡ text)
stored_key text [] v e = absurd (none-some v e)
stored_key text (p ∷ ps) v e = by (has_text text p.0) refl (stored_key text ps v) e
  where
    by : (b : Bool) → has_text text p.0 ≡ b → (lookup_by (has_text text) ps ≡ Some v → (key : String Global) × (string_bytes key ≡ text)) → (if b then Some p.1 else lookup_by (has_text text) ps) ≡ Some v → (key : String Global) × (string_bytes key ≡ text)
    by true h rest found = (p.0, sym ((bytes_eq-Decides text (string_bytes p.0)).0 h))
    by false h rest found = rest found

module _ (text : List ℕ) (l : Entries) (v w : ℤ) (e : lookup_by (has_text text) l ≡ Some v) where
  -- This key finds the value, too.
  found_by_key : (key : String Global) → string_bytes key ≡ text → lookup string_eq l key ≡ Some v
  found_by_key key same = subst (λ t. lookup_by (has_text t) l ≡ Some v) (sym same) e

  has_index : (key : String Global) → string_bytes key ≡ text → is_some (index_of string_eq l key) ≡ true
  has_index key same = sym (is_some_lookup_by (string_eq key) l) ∙ ap is_some (found_by_key key same)

  -- A write to the value is an insertion.
  pub write_found : (key : String Global) × (string_bytes key ≡ text) × (Some v ≡ lookup string_eq l key) × (set_value (has_text text) l w ≡ put string_eq l key w)
  write_found =
      let found = stored_key text l v e in
      let key = found.0 in (
        key,
        found.1,
        sym (found_by_key key found.1),
        grind (arith, found.1, has_index key found.1, set_value_by_index (string_eq key) l w, put_by_index string_eq l key w),
      )

  -- An insertion that keeps an existing value leaves the list.
  pub keep_found : (key : String Global) × (string_bytes key ≡ text) × (Some v ≡ Some (unwrap_or (lookup string_eq l key) w)) × (l ≡ put string_eq l key (unwrap_or (lookup string_eq l key) w))
  keep_found =
      let found = stored_key text l v e in
      let key = found.0 in (
        key,
        found.1,
        ap (λ o. Some (unwrap_or o w)) (sym (found_by_key key found.1)),
        grind (arith, has_index key found.1, put_stored string_eq l key w),
      )
