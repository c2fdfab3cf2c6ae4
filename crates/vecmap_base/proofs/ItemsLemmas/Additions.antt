-- What additions, in order, make of a list. First come the definitions, for a list with one element more.
use Rattle.std.specs.{Cmp.IsEquivalence, List.IsDistinct, Option.option_map, Set.is_member}
use Rattle.std.proofs.Common.{arith, ◌≡◌, suc, Bool, List, ◌∷◌, Some, if◌then◌else◌, slice_set, ℕ, true, false, [], ◌++◌, ◌+◌, ◌<◌, length, take, ap, get_or, ◌∙◌, subst, sym}
use Rattle.std.proofs.lemmas.List.{append-nil, append_assoc, Sums.fold_more}
use Rattle.vecmap_base.{specs.Items.{add, item_index, put_item, adds}, proofs.{DistinctLemmas.none_before, IndexLemmas.position_cons}}

module _ {T : Type 0} (eq : T → T → Bool) where
  pub item_index_cons : (y : T) (ys : List T) (x : T) → item_index eq (y ∷ ys) x ≡ (if eq x y then Some 0 else option_map suc (item_index eq ys x))
  item_index_cons y ys x = position_cons (eq x) y ys

  pub add_cons : (y : T) (ys : List T) (x : T) → add eq (y ∷ ys) x ≡ (if eq x y then y ∷ ys else y ∷ add eq ys x)
  add_cons y ys x = grind (arith)

  pub put_item_cons : (y : T) (ys : List T) (x : T) → put_item eq (y ∷ ys) x ≡ (if eq x y then x ∷ ys else y ∷ put_item eq ys x)
  put_item_cons y ys x = grind (arith, slice_set, item_index_cons)

module _ {T : Type 0} (eq : T → T → Bool) where
  pub add_absent : (s : List T) (x : T) → is_member eq s x ≡ false → add eq s x ≡ s ++ x ∷ []
  add_absent s x e = ap (λ b. if b then s else s ++ x ∷ []) e

  pub add_present : (s : List T) (x : T) → is_member eq s x ≡ true → add eq s x ≡ s
  add_present s x e = ap (λ b. if b then s else s ++ x ∷ []) e

  -- The additions of the first `i + 1` elements are the additions of the first `i` and one more.
  pub adds_more : (xs : List T) (i : ℕ) (d : T) → i < length xs → adds eq [] (take (i + 1) xs) ≡ add eq (adds eq [] (take i xs)) (get_or xs i d)
  adds_more xs i d l = fold_more (add eq) [] xs i d l

  module _ (o : IsEquivalence eq) where
    pub adds_apart : (s xs : List T) → IsDistinct eq (s ++ xs) → adds eq s xs ≡ s ++ xs
    adds_apart s [] d = sym (append-nil s)
    adds_apart s (x ∷ xs) d =
        let moved : (s ++ x ∷ []) ++ xs ≡ s ++ x ∷ xs = append_assoc s (x ∷ []) xs in
        ap (λ l. adds eq l xs) (add_absent s x (none_before eq o s x xs d)) ∙ adds_apart (s ++ x ∷ []) xs (subst (IsDistinct eq) (sym moved) d) ∙ moved

    -- A distinct list has no duplicates, so its additions to the empty list make the list itself.
    pub adds_distinct : (xs : List T) → IsDistinct eq xs → adds eq [] xs ≡ xs
    adds_distinct xs d = adds_apart [] xs d
