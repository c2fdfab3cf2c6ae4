-- What lookups find in a list of clones, and clones of items that are inserted in order, with one clone more.
use Rattle.std.specs.{Cmp.IsEquivalence, Map.IsKeyTest}
use Rattle.std.proofs.{Common.{arith, ◌≡◌, Bool, true, List, [], ◌∷◌, ◌++◌, fold, map, sym, subst}, lemmas.List.{map_push, Elements.AllZip-push}}
use Rattle.std.proofs.lemmas.List.Sums.{fold_push}
use Rattle.vecmap_base.{specs.{Clones.{ArePairClones, ClonesAreSame, AreClones}, Pairs.lookup_by}, proofs.PairsLemmas.LookupsAfterChanges.same_answer}

module _ {K V : Type 0} (C : K → K → Type 0) (D : V → V → Type 0) (same_values : ClonesAreSame D) where
  module _ (eq : K → K → Bool) (o : IsEquivalence eq) (equal_keys : (x y : K) → C x y → eq x y ≡ true) (test : K → Bool) (respects : IsKeyTest eq test) where
    -- If clones of keys are equal and clones of values are the same, a query finds the same.
    pub lookup_by_cloned : (l m : List (K × V)) → ArePairClones C D l m → lookup_by test m ≡ lookup_by test l
    lookup_by_cloned [] [] c = grind (arith, same_answer)
    lookup_by_cloned [] (q ∷ qs) c = grind (arith, same_answer)
    lookup_by_cloned (p ∷ ps) [] c = grind (arith, same_answer)
    lookup_by_cloned (p ∷ ps) (q ∷ qs) c = grind (arith, same_answer, (lookup_by_cloned ps qs c.1))

module _ {A S : Type 0} (is_clone : A → A → Type 0) (f : S → A → S) where
  -- Clones of the items, inserted in order, lead from `old` to `new`.
  abbrev pub TakesClones : S → List A → S → Type 0
  TakesClones old items new = (clones : List A) × AreClones is_clone items clones × (new ≡ fold f old clones)

  pub clone_taken : (old : S) (items : List A) (mid new : S) (x y : A) → TakesClones old items mid → is_clone x y → new ≡ f mid y → TakesClones old (items ++ x ∷ []) new
  clone_taken old items mid new x y h c e = grind (arith, AllZip-push, fold_push)

  -- The same for items that are references to what is cloned.
  pub lent_clone_taken : {L : Type 0} (deref : L → A) (old : S) (items : List L) (mid new : S) (item : L) (y : A) → TakesClones old (map deref items) mid → is_clone (deref item) y → new ≡ f mid y → TakesClones old (map deref (items ++ item ∷ [])) new
  lent_clone_taken deref old items mid new item y h c e =
      subst (λ (l : List A). TakesClones old l new) (sym (map_push deref items item)) (clone_taken old (map deref items) mid new (deref item) y h c e)
