-- What is found after insertions of which the first value wins.
use Rattle.std.proofs.Common.{arith, ◌≡◌, Bool, List, [], ◌∷◌, ◌++◌, None, Some, if◌then◌else◌, ap, refl, sym, unwrap_or, ◌∙◌}
use Rattle.std.specs.{Cmp.IsEquivalence, Map.keys_of, Option.{option_and_then, option_or}}
use Rattle.vecmap_base.proofs.{PairsLemmas.Keys.keys_of_put, PairsLemmas.ByIndex.lookup_by_index, PairsLemmas.Puts.put_absent}
use Rattle.vecmap_laws.specs.MapLaws.{put_new, puts_new}
use Rattle.vecmap_laws.proofs.{AfterPuts.{lookup_put_any, put_same}, ItemLemmas.or_none, LookupLemmas.lookup_congr, OneMore.lookup_cons}
use Rattle.vecmap_base.specs.{Items.adds, Pairs.{index_of, lookup, put, value_at}}

module _ {K V : Type 0} (eq : K → K → Bool) where
  -- A key that is present keeps its value, and nothing changes.
  pub put_new_present : (l : List (K × V)) (k : K) (v w : V) → lookup eq l k ≡ Some w → put_new eq l k v ≡ l
  put_new_present l k v w e = put_same eq l k (unwrap_or (lookup eq l k) v) (rw e refl)

  -- A new pair is appended.
  pub put_new_absent : (l : List (K × V)) (k : K) (v : V) → index_of eq l k ≡ None → put_new eq l k v ≡ l ++ (k, v) ∷ []
  put_new_absent l k v e = ap (λ found. put eq l k (unwrap_or found v)) (lookup_by_index (eq k) l ∙ ap (option_and_then (value_at l)) e) ∙ put_absent eq l k v e

  pub keys_of_puts_new : (l ps : List (K × V)) → keys_of (puts_new eq l ps) ≡ adds eq (keys_of l) (keys_of ps)
  keys_of_puts_new l [] = refl
  keys_of_puts_new l (p ∷ ps) = keys_of_puts_new (put_new eq l p.0 p.1) ps ∙ ap (λ ks. adds eq ks (keys_of ps)) (keys_of_put eq l p.0 (unwrap_or (lookup eq l p.0) p.1))

  module _ (o : IsEquivalence eq) where
    -- After the insertion of a pair whose key keeps the value that it has, a list that is looked up afterwards needs
    -- the pair no more.
    pub first_wins : (l m : List (K × V)) (k : K) (v : V) (q : K) → option_or (lookup eq (put_new eq l k v) q) (lookup eq m q) ≡ option_or (lookup eq l q) (lookup eq ((k, v) ∷ m) q)
    first_wins l m k v q = grind (arith, lookup_put_any eq o l k (unwrap_or (lookup eq l k) v) q, lookup_cons eq (k, v) m q, lookup_congr eq o l k q, o.symm k q)

    -- A lookup finds the old value of its key, or else the inserted one.
    pub lookup_put_new : (l : List (K × V)) (k : K) (v : V) (q : K) → lookup eq (put_new eq l k v) q ≡ option_or (lookup eq l q) (if eq k q then Some v else None)
    lookup_put_new l k v q = grind (arith, lookup_put_any eq o l k (unwrap_or (lookup eq l k) v) q, lookup_congr eq o l k q)

    -- A lookup finds the old value of its key, or else the first one that the pairs give it.
    pub lookup_puts_new : (l ps : List (K × V)) (q : K) → lookup eq (puts_new eq l ps) q ≡ option_or (lookup eq l q) (lookup eq ps q)
    lookup_puts_new l [] q = sym (or_none (lookup eq l q))
    lookup_puts_new l (p ∷ ps) q = lookup_puts_new (put_new eq l p.0 p.1) ps q ∙ first_wins l ps p.0 p.1 q
