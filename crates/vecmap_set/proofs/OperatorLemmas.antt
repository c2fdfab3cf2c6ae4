-- What is taken from an iterator until nothing is left is the list that it had. By induction on the taken items.
use Rattle.std.proofs.Common.{◌≡◌, ◌+◌, ◌≤◌, ◌&&◌, ◌||◌, Bool, Contains, IsTrue, List, [], ◌∷◌, ◌++◌, Option, Some, ap, arith, false, filter, length, length-append, not, sym, true, ◌∙◌, map}
use Rattle.std.proofs.lemmas.{List.append-nil, List.map_push, List.Elements.AllZip-push, List.Folds.list_any-append}
use Rattle.std.specs.{Borrow.Bor, Cmp.IsEquivalence, Iterator.Yields, Iterator.YieldsFirstRef, List.IsDistinct, Map.Iter.deref, Set.is_member}
use Rattle.vecmap_base.specs.{Clones.AreClones, Items.both, Items.only}
use Rattle.vecmap_base.proofs.ItemsLemmas.Changes.{is_member_clones}
use Rattle.vecmap_set.specs.Operators.{CombinesMembers, DrainsIntoClones, symmetric_difference_of, union_of}
use Rattle.vecmap_set.proofs.{MemberLemmas.length_of_clones, SetLemmas.{by_queries, distinct_clones_of}}
pub use Rattle.vecmap_base.proofs.EqualityLemmas.Sets.{distinct_both, distinct_only, distinct_symmetric_difference, distinct_union, is_member_both, is_member_only}

module _ {S T : Type 0} (steps : S → Option (Bor T) → S → Type 0) (rest : S → List T) where
  taken : ((s : S) (r : Option (Bor T)) (t : S) → steps s r t → YieldsFirstRef rest s r t) → (s t : S) (items : List (Bor T)) → Yields steps s items t → rest s ≡ map deref items ++ rest t
  taken gives s t [] y = ap rest y
  taken gives s t (x ∷ xs) y = gives s (Some x) y.0 y.1 ∙ ap (λ l. x.now ∷ l) (taken gives y.0 t xs y.2)

  -- An operator takes `list` of the elements of two sets. The clones are distinct if each is equal to its original.
  pub operator_clones : {eq : T → T → Bool} (o : IsEquivalence eq) {C : T → T → Type 0} (list : List T → List T → List T)
      → ((a b : List T) → IsDistinct eq a → IsDistinct eq b → IsDistinct eq (list a b))
      → {made : List T} {s : S} {x y u v : List T} → rest s ≡ list x y → x ≡ u → y ≡ v → IsDistinct eq x → IsDistinct eq y
      → ((x y : T) → Contains (list u v) x → C x y → IsTrue (eq x y)) → DrainsIntoClones steps C s made
      → ((s : S) (r : Option (Bor T)) (t : S) → steps s r t → YieldsFirstRef rest s r t)
      → AreClones C (list u v) made × IsDistinct eq made
  operator_clones o {C} list apart {made = made} e left right left_apart right_apart same d gives = grind (arith, taken, append-nil, distinct_clones_of)

module _ {T : Type 0} (eq : T → T → Bool) (o : IsEquivalence eq) where
  pub is_member_union : (a b : List T) (x : T) → is_member eq (union_of eq a b) x ≡ (is_member eq a x || is_member eq b x)
  is_member_union a b x = grind (arith, list_any-append, is_member_only)

  -- An element is in the symmetric difference if it is in exactly one of the two lists.
  pub is_member_symmetric_difference : (a b : List T) (x : T) → is_member eq (symmetric_difference_of eq a b) x ≡ ((is_member eq a x && not (is_member eq b x)) || (is_member eq b x && not (is_member eq a x)))
  is_member_symmetric_difference a b x = list_any-append (eq x) (only eq a b) (only eq b a) ∙ (λ i. is_member_only eq o a b x i || is_member_only eq o b a x i)

  filter_short : (p : T → Bool) (xs : List T) → length (filter p xs) ≤ length xs
  filter_short p [] = grind (arith)
  filter_short p (x ∷ xs) = grind (arith, (filter_short p xs))

  -- The list `r` has no more elements than both lists, and no more than `a` if it takes none from `b` alone.
  abbrev pub Fits : (Bool → Bool → Bool) → List T → List T → List T → Type 0
  Fits combine a b r = (length r ≤ length a + length b) × (combine false true ≡ false → length r ≤ length a)

  pub fits_both : (combine : Bool → Bool → Bool) (a b : List T) → Fits combine a b (both eq a b)
  fits_both combine a b = let short = filter_short (λ x. is_member eq b x) a in (omega (arith, short), λ e. short)

  pub fits_only : (combine : Bool → Bool → Bool) (a b : List T) → Fits combine a b (only eq a b)
  fits_only combine a b = let short = filter_short (λ x. not (is_member eq b x)) a in (omega (arith, short), λ e. short)

  pub fits_union : (combine : Bool → Bool → Bool) → combine false true ≡ true → (a b : List T) → Fits combine a b (union_of eq a b)
  fits_union combine takes a b = grind (arith, filter_short, length-append)

  pub fits_symmetric_difference : (combine : Bool → Bool → Bool) → combine false true ≡ true → (a b : List T) → Fits combine a b (symmetric_difference_of eq a b)
  fits_symmetric_difference combine takes a b = grind (arith, filter_short, length-append)

  -- What is said of elements is said of queries: a query that matches something matches the equals of one element.
  pub combined : (combine : Bool → Bool → Bool) → combine false false ≡ false → (a b r : List T) → ((q : T) → is_member eq r q ≡ combine (is_member eq a q) (is_member eq b q)) → Fits combine a b r → CombinesMembers eq combine a b r
  combined combine nothing a b r members fits = record {
    members = members;
    queries = by_queries eq o (λ x y z. x ≡ combine y z) (sym nothing) r a b members;
    len = fits.0;
    part = fits.1;
  }

  -- What an operator creates, with the members of the set.
  pub with_members : {C : T → T → Type 0} (combine : Bool → Bool → Bool) (list : List T → List T → List T) → combine false false ≡ false → ((a b : List T) (q : T) → is_member eq (list a b) q ≡ combine (is_member eq a q) (is_member eq b q))
      → ((a b : List T) → Fits combine a b (list a b))
      → {made u v : List T} → ((x y : T) → Contains (list u v) x → C x y → IsTrue (eq x y))
      → AreClones C (list u v) made × IsDistinct eq made → (AreClones C (list u v) made × IsDistinct eq made) × CombinesMembers eq combine u v made
  with_members {C} combine list nothing members fits {made = made} {u = u} {v = v} same clones =
      let long = length_of_clones C (list u v) made clones.0 in
      let short = fits u v in (
        clones,
        combined combine nothing u v made (λ q. is_member_clones eq o C (list u v) made same clones.0 q ∙ members u v q)
            (omega (arith, long, short.0), λ e. omega (arith, long, short.1 e)),
      )

-- The lemmas for the loop that makes clones.
pub ruleset pushes = (map_push, AllZip-push)
