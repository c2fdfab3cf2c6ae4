-- The elements that are in both of two lists, or in only one, what `intersection` and `union` yield, whichever list is
-- longer, and what `^` makes of two collected sets. The idea: a fact about two lists in either order is one about the
-- shorter and the other.
use Rattle.std.specs.{Cmp.{IsEquivalence, nat_eq_equiv}, List.{AllZip, IsDistinct, Sorted.IsPermutation}, Prelude.{nat_eq, refl, ℕ, ◌++◌, ◌↔◌}, Set.is_member}
use Rattle.std.proofs.{Common.{Bool, List, length, not, true, ◌+◌, ◌||◌, ◌≡◌, arith, length-append, sym, ◌∙◌, ◌&&◌, [], nat_lt}, Math.Bool.{and_comm, or_comm}}
use Rattle.std.proofs.lemmas.{Bool.{and_from, and_parts}, List.{Elements.length_all_zip, Filters.length-filter_both, Folds.list_any-append}}
use Rattle.std.proofs.lemmas.{List.Sorted.list_any-IsPermutation, Map.Made.length-from_same_keys}
use Rattle.vecmap_base.specs.{Equality.{has_same_items, is_within}, Items.{both, only, adds}}
use Rattle.vecmap_base.proofs.{EqualityLemmas.Sets.{distinct_both, is_member_both, same_items, set_equality_laws}, ItemsLemmas.Members.is_member_adds}
use Rattle.vecmap_set.specs.Lazy.{Filtered, Parts, filtered_of, filtered_of_shorter, filtered_rest, longer_first, union_parts, union_rest}
use Rattle.vecmap_set.specs.Operators.{symmetric_difference_of, union_of}
use Rattle.vecmap_set.proofs.OperatorLemmas.{is_member_union as member_of_union, is_member_symmetric_difference}
use Rattle.vecmap_laws.specs.Algebra.{lazy_intersection, lazy_union}

module _ {T : Type 0} (eq : T → T → Bool) (o : IsEquivalence eq) where
  -- The elements in both lists do not depend on the order of the two lists, and neither do those in one or the other.
  pub both_turned : (a b : List T) → has_same_items eq (both eq a b) (both eq b a) ≡ true
  both_turned a b = same_items eq o (both eq a b) (both eq b a) (λ x. is_member_both eq o a b x ∙ and_comm (is_member eq a x) (is_member eq b x) ∙ sym (is_member_both eq o b a x))

  pub is_member_union : (a b : List T) (x : T) → is_member eq (a ++ only eq b a) x ≡ (is_member eq a x || is_member eq b x)
  is_member_union = member_of_union eq o

  pub union_turned : (a b : List T) → has_same_items eq (a ++ only eq b a) (b ++ only eq a b) ≡ true
  union_turned a b = same_items eq o (a ++ only eq b a) (b ++ only eq a b) (λ x. is_member_union a b x ∙ or_comm (is_member eq a x) (is_member eq b x) ∙ sym (is_member_union b a x))

  pub symmetric_difference_turned : (a b : List T) → has_same_items eq (only eq a b ++ only eq b a) (only eq b a ++ only eq a b) ≡ true
  symmetric_difference_turned a b = grind (arith, same_items, list_any-append, or_comm)

  pub length_both_turned : (a b : List T) → IsDistinct eq a → IsDistinct eq b → length (both eq a b) ≡ length (both eq b a)
  length_both_turned a b d e =
      length-from_same_keys o (both eq a b) (both eq b a) (distinct_both eq o a b d) (distinct_both eq o b a e) (λ x. is_member_both eq o a b x ∙ and_comm (is_member eq a x) (is_member eq b x) ∙ sym (is_member_both eq o b a x))

  pub length_both_only : (a b : List T) → length (both eq a b) + length (only eq a b) ≡ length a
  length_both_only a b = length-filter_both (λ x. is_member eq b x) (λ x. not (is_member eq b x)) (λ x. refl) a

  -- The lengths of the union and of the list of common elements add up to the lengths of the two lists.
  pub length_union : (a b : List T) → IsDistinct eq a → IsDistinct eq b → length (a ++ only eq b a) + length (both eq a b) ≡ length a + length b
  length_union a b d e = omega (arith, length-append a (only eq b a), length_both_turned a b d e, length_both_only b a)

-- Clones of the common elements and of the others are as many as all elements.
pub number_parts_add : (is_clone : ℕ → ℕ → Type 0) (a b s t : List ℕ) → AllZip is_clone (both nat_eq a b) s → AllZip is_clone (only nat_eq a b) t → length s + length t ≡ length a
number_parts_add is_clone a b s t e f = omega (arith, length_all_zip is_clone (both nat_eq a b) s e, length_all_zip is_clone (only nat_eq a b) t f, length_both_only nat_eq nat_eq_equiv a b)

module _ {T : Type 0} (eq : T → T → Bool) (o : IsEquivalence eq) where
  -- The order of the elements makes no difference.
  pub rearranged_sets_equal : (a b : List T) → IsPermutation a b → has_same_items eq a b ≡ true
  rearranged_sets_equal a b p = same_items eq o a b (λ x. list_any-IsPermutation (eq x) a b p)

  -- Two lists are equal as sets exactly if each is within the other.
  pub equal_if_within_each_other : (a b : List T) → has_same_items eq a b ≡ true ↔ ((is_within eq a b ≡ true) × (is_within eq b a ≡ true))
  equal_if_within_each_other a b = (and_parts (is_within eq a b) (is_within eq b a), λ p. and_from _ _ p.0 p.1)

module _ {T : Type 0} (a b : List T) where
  -- What holds of two lists in either order holds of the shorter and the other.
  pub on_shorter : (P : Filtered T → Type 0) → P (filtered_of b a) → P (filtered_of a b) → P (filtered_of_shorter a b)
  on_shorter P x y = grind (arith, nat_lt)

  -- It also holds of the longer and the other.
  pub on_longer : (P : Parts (List T) (Filtered T) → Type 0) → P (union_parts b a) → P (union_parts a b) → P (longer_first a b)
  on_longer P x y = grind (arith, nat_lt)

module _ {T : Type 0} (eq : T → T → Bool) (o : IsEquivalence eq) (a b : List T) where
  -- The lazy lists are equal, as sets, to those of the operators.
  pub lazy_intersection_is_both : has_same_items eq (lazy_intersection eq a b) (both eq a b) ≡ true
  lazy_intersection_is_both = on_shorter a b (λ s. has_same_items eq (filtered_rest (is_member eq) s) (both eq a b) ≡ true) (both_turned eq o b a) ((set_equality_laws eq o).refl (both eq a b))

  pub lazy_union_is_union : has_same_items eq (lazy_union eq a b) (union_of eq a b) ≡ true
  lazy_union_is_union = on_longer a b (λ s. has_same_items eq (union_rest eq s) (union_of eq a b) ≡ true) (union_turned eq o b a) ((set_equality_laws eq o).refl (union_of eq a b))

module _ {T : Type 0} (eq : T → T → Bool) (o : IsEquivalence eq) (a b : List T) where
  -- If k is equal to l, l to m, and n to m as sets, then k is equal to n.
  ends_equal : (k l m n : List T) → has_same_items eq k l ≡ true → has_same_items eq l m ≡ true → has_same_items eq n m ≡ true → has_same_items eq k n ≡ true
  ends_equal k l m n e f g =
      let laws = set_equality_laws eq o in
      laws.congr k l n e ∙ laws.congr l m n f ∙ laws.symm m n ∙ g

  pub lazy_intersection_turned : has_same_items eq (lazy_intersection eq a b) (lazy_intersection eq b a) ≡ true
  lazy_intersection_turned = ends_equal _ (both eq a b) (both eq b a) _ (lazy_intersection_is_both eq o a b) (both_turned eq o a b) (lazy_intersection_is_both eq o b a)

  pub lazy_union_turned : has_same_items eq (lazy_union eq a b) (lazy_union eq b a) ≡ true
  lazy_union_turned = ends_equal _ (union_of eq a b) (union_of eq b a) _ (lazy_union_is_union eq o a b) (union_turned eq o a b) (lazy_union_is_union eq o b a)

module _ {T : Type 0} (eq : T → T → Bool) (o : IsEquivalence eq) (a b : List T) (d : IsDistinct eq a) (e : IsDistinct eq b) where
  -- The lengths of intersection and union add up to those of the two sets.
  pub lengths_add : length (both eq a b) + length (union_of eq a b) ≡ length a + length b
  lengths_add = omega (arith, length_union eq o a b d e)

  length_lazy_intersection : length (lazy_intersection eq a b) ≡ length (both eq a b)
  length_lazy_intersection = on_shorter a b (λ s. length (filtered_rest (is_member eq) s) ≡ length (both eq a b)) (length_both_turned eq o b a e d) (λ i. length (both eq a b))

  length_lazy_union : length (lazy_union eq a b) ≡ length (union_of eq a b)
  length_lazy_union =
      on_longer a b (λ s. length (union_rest eq s) ≡ length (union_of eq a b))
      (omega (arith, length_union eq o a b d e, length_union eq o b a e d, length_both_turned eq o a b d e)) (λ i. length (union_of eq a b))

  pub lazy_lengths_add : length (lazy_intersection eq a b) + length (lazy_union eq a b) ≡ length a + length b
  lazy_lengths_add = omega (arith, length_lazy_intersection, length_lazy_union, lengths_add)

module _ {T : Type 0} (eq : T → T → Bool) (o : IsEquivalence eq) where
  -- An element is in the symmetric difference of two collected sets if it is in exactly one of the lists. The equation is
  -- a premise, since the search opens a member of a symmetric difference.
  pub is_member_of_collected : (xs ys s : List T) → s ≡ symmetric_difference_of eq (adds eq [] xs) (adds eq [] ys) → (z : T) → is_member eq s z ≡ ((is_member eq xs z && not (is_member eq ys z)) || (is_member eq ys z && not (is_member eq xs z)))
  is_member_of_collected xs ys s e z = grind (arith, is_member_symmetric_difference, is_member_adds)
