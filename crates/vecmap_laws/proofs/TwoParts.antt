-- What lookups find in a list of two parts, and the value and the index of a key after many insertions.
use Rattle.std.proofs.{lemmas.Grind.common_steps, Common.{arith, ◌≡◌, ℕ, Bool, List, [], ◌∷◌, ◌++◌, Some, position, reverse, sym, ap, ◌∙◌}}
use Rattle.std.{proofs.lemmas.List.reverse-append, specs.{Cmp.IsEquivalence, Option.option_or, Map.keys_of}}
use Rattle.vecmap_base.specs.{Items.{adds, item_index}, Pairs.{index_of, lookup, put, puts}}
use Rattle.vecmap_base.proofs.PairsLemmas.{Keys.{index_of_is, keys_of_puts}, ManyPairs.lookup_by_append}
use Rattle.vecmap_laws.proofs.{AfterPuts.{lookup_put_any, option_or_assoc}, ItemLemmas.{item_index_adds_kept, or_none}, LookupLemmas.look}

module _ {K V : Type 0} (eq : K → K → Bool) where
  pub lookup_append : (a b : List (K × V)) (q : K) → lookup eq (a ++ b) q ≡ option_or (lookup eq a q) (lookup eq b q)
  lookup_append a b q = lookup_by_append (eq q) a b

  -- After insertions, the index of a key is that of an element after additions.
  pub index_of_puts : (l pairs : List (K × V)) (q : K) → index_of eq (puts eq l pairs) q ≡ item_index eq (adds eq (keys_of l) (keys_of pairs)) q
  index_of_puts l pairs q = index_of_is eq (puts eq l pairs) q ∙ ap (position (eq q)) (keys_of_puts eq l pairs)

  -- An existing key keeps its index.
  pub index_of_puts_kept : (l pairs : List (K × V)) (q : K) (i : ℕ) → index_of eq l q ≡ Some i → index_of eq (puts eq l pairs) q ≡ Some i
  index_of_puts_kept l pairs q i e = index_of_puts l pairs q ∙ item_index_adds_kept eq (keys_of l) (keys_of pairs) q i (sym (index_of_is eq l q) ∙ e)

  module _ (o : IsEquivalence eq) where
    one_put : (l : List (K × V)) (p : K × V) (q : K) → lookup eq (put eq l p.0 p.1) q ≡ option_or (lookup eq (p ∷ []) q) (lookup eq l q)
    one_put l p q = grind (arith, lookup_put_any, look)

    -- After insertions, a key has the last value that they give it, or else its old one.
    pub lookup_puts_last : (l pairs : List (K × V)) (q : K) → lookup eq (puts eq l pairs) q ≡ option_or (lookup eq (reverse pairs) q) (lookup eq l q)
    lookup_puts_last l [] q = grind (arith, common_steps, one_put, option_or_assoc, lookup_append, reverse-append)
    lookup_puts_last l (p ∷ ps) q = grind (arith, common_steps, one_put, option_or_assoc, lookup_append, reverse-append, (lookup_puts_last (put eq l p.0 p.1) ps q))

    -- The same from the empty list.
    pub lookup_made_last : (pairs : List (K × V)) (q : K) → lookup eq (puts eq [] pairs) q ≡ lookup eq (reverse pairs) q
    lookup_made_last pairs q = lookup_puts_last [] pairs q ∙ or_none (lookup eq (reverse pairs) q)
