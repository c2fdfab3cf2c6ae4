-- What a binary search says of a list: whether an item compares as equal, if comparisons rise with the items.
use Rattle.std.specs.Prelude.{◌≡◌, ◌+◌, ◌-◌, ◌<◌, ◌≤◌, ℕ, Bool, Err, List, [], ◌∷◌, IfOk, Ok, Result, Some, false, insert, is_ok, length, slice_get, true}
use Rattle.std.specs.{Cmp.{IsTotalOrder, alike_right, IsStrictWeakOrder}, List.list_any, declared.cmp.Ordering.Ordering}
use Rattle.std.specs.List.Sorted.{IsBinarySearchResult, IsNonDecreasingBy, IsPartitionPoint, IsSearchInRange, IsSortedByKey}
use Rattle.std.specs.Ordering.{is_eq, is_gt, is_lt, ordering_index, ordering_reverse}
use Rattle.std.specs.declared.cmp.Ordering.TheVariants.{Equal, Greater, Less}
use Rattle.std.proofs.{Common.{◌∙◌, ap, arith, get_or, inl, inr, nat_lt, refl, subst, sym, true≢false}, lemmas.Option.slice_get-get_or}
use Rattle.std.proofs.lemmas.{Bool.{cases_Bool, ltb-false, ltb-true}, List.{Edits.{get_or-insert_above, get_or-insert_at, get_or-insert_below, length-insert}, Folds.{list_any_at, list_any_none}, Sorted.sorted_far}}

module _ {X K : Type 0} (key : X → K) (cmp : K → K → Ordering) (o : IsTotalOrder cmp) where
  abbrev pub less : X → X → Bool
  less x y = is_lt (cmp (key x) (key y))

  lt_reversed : (r : Ordering) → is_lt (ordering_reverse r) ≡ is_gt r
  lt_reversed Less = refl
  lt_reversed Equal = refl
  lt_reversed Greater = refl

  pub less_is_greater : (x y : X) → less x y ≡ is_gt (cmp (key y) (key x))
  less_is_greater x y = ap is_lt (o.antisymm (key x) (key y)) ∙ lt_reversed (cmp (key y) (key x))

  one_way : (r : Ordering) → is_lt r ≡ true → is_gt r ≡ false
  one_way Less e = refl
  one_way Equal e = refl
  one_way Greater e = absurd (true≢false (sym e))

  pub weak : IsStrictWeakOrder less
  weak = grind (arith, one_way, less_is_greater)

  -- How an item compares with `k` rises with the items.
  rises : (k : K) (y z : X) → less z y ≡ false → (r s : Ordering) → cmp (key y) k ≡ r → cmp (key z) k ≡ s → ordering_index r ≤ ordering_index s
  rises k y z h Less s e f = omega arith
  rises k y z h Equal Less e f = absurd (true≢false (sym (ap is_lt (alike_right o (key y) k (key z) e ∙ f)) ∙ h))
  rises k y z h Equal Equal e f = omega arith
  rises k y z h Equal Greater e f = omega arith
  rises k y z h Greater Less e f = absurd (true≢false (sym (ap is_lt (o.trans (key z) k (key y) f (o.antisymm k (key y) ∙ ap ordering_reverse e))) ∙ h))
  rises k y z h Greater Equal e f = absurd (true≢false (sym (ap is_lt (o.congr (key z) k (key y) f ∙ o.antisymm k (key y) ∙ ap ordering_reverse e)) ∙ h))
  rises k y z h Greater Greater e f = omega arith

  pub comparisons_rise : (k : K) (xs : List X) → IsSortedByKey key cmp xs → IsNonDecreasingBy (λ y. ordering_index (cmp (key y) k)) xs
  comparisons_rise k xs sorted i j d below within =
      elim (cases_Bool (nat_lt i j)) [
        | inl e ↦ rises k (get_or xs i d) (get_or xs j d) (sorted_far less weak xs sorted i j d (let l = ltb-true i j e in omega (arith, l)) within) (cmp (key (get_or xs i d)) k) (cmp (key (get_or xs j d)) k) refl refl
        | inr e ↦ let same : i ≡ j = (let l = ltb-false i j e in omega (arith, l, below)) in subst (λ n. ordering_index (cmp (key (get_or xs i d)) k) ≤ ordering_index (cmp (key (get_or xs n d)) k)) same (omega arith)
      ]

  -- An item that is not equal to `k` is found nowhere.
  pub none_at_partition : (eq : K → K → Bool) → ((x y : K) → eq x y ≡ is_eq (cmp x y)) → (k : K) (xs : List X) (i : ℕ) → IsPartitionPoint (λ y. cmp (key y) k ≡ Less) (λ y. cmp (key y) k ≡ Greater) xs i → list_any (λ y. eq k (key y)) xs ≡ false
  none_at_partition eq matches k xs i split = grind (arith, list_any_none, cases_Bool, nat_lt, ltb-true, ltb-false)

  -- A binary search that succeeds finds the index of an item that is equal to `k`.
  pub search_at : (eq : K → K → Bool) → ((x y : K) → eq x y ≡ is_eq (cmp x y)) → (k : K) (xs : List X) (r : Result ℕ ℕ) → IsSearchInRange r (length xs) → IsBinarySearchResult (λ y. cmp (key y) k) xs r → IfOk r (λ i. (x : X) × (slice_get xs i ≡ Some x) × (eq k (key x) ≡ true))
  search_at eq matches k [] (Ok i) within at = absurd (omega (arith, within))
  search_at eq matches k (x ∷ xs) (Ok i) within at =
      let y = get_or (x ∷ xs) i x in
      (y, slice_get-get_or (x ∷ xs) i x within, matches k (key y) ∙ ap is_eq (o.antisymm k (key y) ∙ ap ordering_reverse (at x)))
  search_at eq matches k xs (Err i) within at = tt

  -- A binary search succeeds exactly if an item is equal to `k`.
  pub search_finds_equal : (eq : K → K → Bool) → ((x y : K) → eq x y ≡ is_eq (cmp x y)) → (k : K) (xs : List X) (r : Result ℕ ℕ) → IsSearchInRange r (length xs) → IsBinarySearchResult (λ y. cmp (key y) k) xs r → IsSortedByKey key cmp xs → is_ok r ≡ list_any (λ y. eq k (key y)) xs
  search_finds_equal eq matches k [] (Ok i) within at sorted = absurd (omega (arith, within))
  search_finds_equal eq matches k (x ∷ xs) (Ok i) within at sorted =
      let y = key (get_or (x ∷ xs) i x) in
      sym (list_any_at (λ z. eq k (key z)) (x ∷ xs) i x within (matches k y ∙ ap is_eq (o.antisymm k y ∙ ap ordering_reverse (at x))))
  search_finds_equal eq matches k xs (Err i) within at sorted = sym (none_at_partition eq matches k xs i (at (comparisons_rise k xs sorted)))

  -- An insertion between the smaller and the greater items keeps the order.
  pub sorted_insert : (xs : List X) (i : ℕ) (x : X) → i ≤ length xs → IsSortedByKey key cmp xs → IsPartitionPoint (λ y. cmp (key y) (key x) ≡ Less) (λ y. cmp (key y) (key x) ≡ Greater) xs i → IsSortedByKey key cmp (insert xs i x)
  sorted_insert xs i x fits sorted split k d from within =
      let long = length-insert xs i x fits in
      elim (cases_Bool (nat_lt (k + 1) i)) [
        | inl e ↦
            let l : k + 1 < i = ltb-true (k + 1) i e in
            (λ t. less (get_or-insert_below xs i x d (k + 1) l fits t) (get_or-insert_below xs i x d k (omega (arith, l)) fits t)) ∙ sorted k d (omega arith) (omega (arith, l, fits))
        | inr e ↦
            let l : i ≤ k + 1 = ltb-false (k + 1) i e in
            elim (cases_Bool (nat_lt k i)) [
              | inl f ↦
                  let m : k < i = ltb-true k i f in
                  let z : k + 1 ≡ i = omega (arith, l, m) in
                  ap (λ n. less (get_or (insert xs i x) n d) (get_or (insert xs i x) k d)) z
                  ∙ (λ t. less (get_or-insert_at xs i x d fits t) (get_or-insert_below xs i x d k m fits t))
                  ∙ less_is_greater x (get_or xs k d)
                  ∙ ap is_gt (split.0 k d (omega arith) m)
              | inr f ↦
                  let m : i ≤ k = ltb-false k i f in
                  ap (λ y. less y (get_or (insert xs i x) k d)) (get_or-insert_above xs i x d k m fits)
                  ∙ elim (cases_Bool (nat_lt i k)) [
                    | inl g ↦
                        let n : i < k = ltb-true i k g in
                        let z : k ≡ (k - 1) + 1 = omega (arith, n) in
                        ap (λ j. less (get_or xs k d) (get_or (insert xs i x) j d)) z
                        ∙ ap (λ y. less (get_or xs k d) y) (get_or-insert_above xs i x d (k - 1) (omega (arith, n)) fits)
                        ∙ ap (λ j. less (get_or xs j d) (get_or xs (k - 1) d)) z
                        ∙ sorted (k - 1) d (omega arith) (omega (arith, n, within, long))
                    | inr g ↦
                        let n : k ≡ i = (let h = ltb-false i k g in omega (arith, m, h)) in
                        ap (λ j. less (get_or xs k d) (get_or (insert xs i x) j d)) n
                        ∙ ap (λ y. less (get_or xs k d) y) (get_or-insert_at xs i x d fits)
                        ∙ ap is_lt (split.1 k d m (omega (arith, within, long)))
                  ]
            ]
      ]
