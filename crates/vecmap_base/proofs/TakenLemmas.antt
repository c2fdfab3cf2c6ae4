-- A list without one of its items, wherever the items after it go: what removals that shift and that swap share.
use Rattle.std.specs.{List.list_any, List.Sorted.IsPermutation, List.swap_remove, Option.option_map_or, Option.option_to_list}
use Rattle.std.proofs.Common.{◌≡◌, ◌∙◌, ◌+◌, ◌-◌, ◌++◌, ◌<◌, ◌⊎◌, ℕ, Bool, true, false, List, [], ◌∷◌, None, Option, Some, ap, arith, get_or, get_or-take, if◌then◌else◌, inl, inr, is_some, length, length-set, min, position, refl, remove, set, slice_get, sym, subst, take, take_at}
use Rattle.std.proofs.lemmas.List.{append-nil, length-take, length-take-le, take-set-le, take-take}
use Rattle.std.proofs.lemmas.List.Sorted.{IsPermutation-append_comm, IsPermutation-remove, IsPermutation-swap_remove, length_permutation}
use Rattle.std.proofs.lemmas.{Grind.get_or-set_at, Option.{get_or_from_slice_get, slice_get-get_or, slice_get_within}}
use Rattle.vecmap_base.specs.Items.{swap_without, swap_without_first, without_first}
use Rattle.vecmap_base.proofs.IndexLemmas.{found_item_at, list_any_position, slice_get_last}

module _ {T : Type 0} (s r : List T) where
  -- The items of the list `s` are those of `r` and the one at the index `i`, and those before it stay.
  abbrev pub TakesAt : ℕ → T → Type 0
  TakesAt i x = (slice_get s i ≡ Some x) × IsPermutation s (x ∷ r) × (take i r ≡ take i s)

  pub taken_by_shift : (i : ℕ) (x : T) → r ≡ remove s i → slice_get s i ≡ Some x → TakesAt i x
  taken_by_shift i x e at = grind (arith, slice_get_within, IsPermutation-remove, get_or_from_slice_get, take_at, length-take-le)

  front_of_swapped : (i : ℕ) (x : T) → i < length s → take i (swap_remove s i x) ≡ take i s
  front_of_swapped i x l = grind (arith, take-take, take-set-le)

  pub taken_by_swap : (i : ℕ) (x : T) → r ≡ swap_without s i → slice_get s i ≡ Some x → TakesAt i x
  taken_by_swap i x e at = grind (arith, slice_get_within, IsPermutation-swap_remove, get_or_from_slice_get, front_of_swapped)

  pub last_taken : (x : T) → s ≡ r ++ x ∷ [] → IsPermutation s (x ∷ r)
  last_taken x e = subst (λ l. IsPermutation l (x ∷ r)) (sym e) (IsPermutation-append_comm r (x ∷ []))

  pub one_less : (x : T) → IsPermutation s (x ∷ r) → length r + 1 ≡ length s
  one_less x moved = let same = length_permutation s (x ∷ r) moved in omega (arith, same)

  -- After the last item was taken, if there was one.
  pub len_popped : (last : Option T) → s ≡ r ++ option_to_list last → length r + (if is_some last then 1 else 0) ≡ length s
  len_popped None e = let same : length s ≡ length r = ap length (e ∙ append-nil r) in omega (arith, same)
  len_popped (Some x) e = one_less x (last_taken x e)

  pub last_read : (last : Option T) → r ≡ take (length s - 1) s → s ≡ r ++ option_to_list last → last ≡ slice_get s (length s - 1)
  last_read None front e =
      let same : length s ≡ length r = ap length (e ∙ append-nil r) in
      let short : length r ≡ min (length s - 1) (length s) = ap length front ∙ length-take (length s - 1) s in
      empty s (omega (arith, same, short))
    where
      empty : (t : List T) → length t ≡ 0 → None ≡ slice_get t (length t - 1)
      empty [] f = refl
      empty (x ∷ xs) f = absurd (omega (arith, f))
  last_read (Some x) front e =
      let same = len_popped (Some x) e in
      let n : length r ≡ length s - 1 = omega (arith, same) in
      sym (slice_get_last r x) ∙ (λ t. slice_get (sym e t) (n t))

  module _ (test : T → Bool) where
    -- The first item that passes is taken, or nothing passes and nothing changes.
    abbrev pub TakesFirst : Type 0
    TakesFirst = ((position test s ≡ None) × (r ≡ s)) ⊎ ((i : ℕ) × (x : T) × TakesAt i x × (position test s ≡ Some i) × (test x ≡ true))

    takes_first : (rest : ℕ → List T) → ((i : ℕ) (x : T) → r ≡ rest i → slice_get s i ≡ Some x → TakesAt i x) → r ≡ option_map_or rest (position test s) s → TakesFirst
    takes_first rest takes e = by (position test s) refl e
      where
        by : (found : Option ℕ) → position test s ≡ found → r ≡ option_map_or rest found s → TakesFirst
        by None p f = inl (p, f)
        by (Some i) p f = let hit = found_item_at test s (Some i) (sym p) in inr (i, hit.0, takes i hit.0 f hit.1, p, hit.2)

    pub first_by_shift : r ≡ without_first test s → TakesFirst
    first_by_shift = takes_first (λ i. remove s i) taken_by_shift

    pub first_by_swap : r ≡ swap_without_first test s → TakesFirst
    first_by_swap = takes_first (λ i. swap_without s i) taken_by_swap

    pub len_of_first : TakesFirst → length r + (if list_any test s then 1 else 0) ≡ length s
    len_of_first (inl n) =
        let none : list_any test s ≡ false = list_any_position test s ∙ ap is_some n.0 in
        let same : length r ≡ length s = ap length n.1 in
        rw none (omega (arith, same))
    len_of_first (inr t) =
        let some : list_any test s ≡ true = list_any_position test s ∙ ap is_some t.3 in
        rw some (one_less t.1 t.2.1)

module _ {T : Type 0} where
  -- After a removal by swap the last item is at the index.
  pub at_swap_removed : (s r : List T) (i : ℕ) (x : T) → r ≡ swap_without s i → slice_get s i ≡ Some x → i < length s - 1 → slice_get r i ≡ slice_get s (length s - 1)
  at_swap_removed s r i x e at h =
      let n = length s - 1 in
      let last = get_or s n x in
      let written = set s i last in
      let left : r ≡ take n written = e ∙ ap (λ found. option_map_or (λ y. swap_remove s i y) found s) at in
      let long : length (take n written) ≡ n = length-take-le n written (omega (arith, length-set s i last)) in
      ap (λ l. slice_get l i) left
      ∙ slice_get-get_or (take n written) i x (omega (arith, long, h))
      ∙ ap Some (get_or-take n written i x h ∙ get_or-set_at s i i last x refl (omega (arith, h)))
      ∙ sym (slice_get-get_or s n x (omega (arith, h)))
