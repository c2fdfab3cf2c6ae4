-- The steps of a gathering: two elements, or the values of two pairs, are swapped.
use Rattle.std.proofs.{lemmas.Grind.common_steps, Math.Seq.take-set-lt, lemmas.{List.Edits.swap_is, Map.Entries.length-values_of}}
use Rattle.std.specs.{List.SwappedAt, Map.keys_of, Map.values_of}
use Rattle.std.proofs.Common.{◌≡◌, ℕ, ◌+◌, ◌-◌, ◌<◌, ◌≤◌, Bool, Some, List, [], ◌∷◌, ◌++◌, drop, length, swap, take, set, get_or, sym, ap, ◌∙◌, arith}
use Rattle.std.proofs.lemmas.List.{drop-map, get_or-map, map-append, map-set, take-map, length-append, take_more, take-set-le, drop-set-lt, drop_more, length-set, set-append_left, set-append_right, get_or_append_left, get_or-append_right}
use Rattle.vecmap_base.specs.Pairs.{index_of, put, with_value}
use Rattle.vecmap_base.proofs.PairsLemmas.{Puts.put_present, Values.{key_stays, keys_of_with_value, same_pairs, values_of_with_value}}

module _ {X : Type 0} where
  -- A swap, seen in a front that holds only the first of the two indices.
  pub take_swap : (xs : List X) (j i k : ℕ) (d : X) → j < k → k ≤ i → i < length xs → take k (swap xs j i) ≡ set (take k xs) j (get_or xs i d)
  take_swap xs j i k d a b l =
      ap (take k) (sym (swap_is xs j i d (omega arith) l)) ∙ take-set-le k (set xs j (get_or xs i d)) i (get_or xs j d) b ∙ take-set-lt k xs j (get_or xs i d) a

  -- A swap changes nothing behind both indices.
  pub drop_swap : (xs : List X) (j i k : ℕ) (d : X) → j < k → i < k → j < length xs → i < length xs → drop k (swap xs j i) ≡ drop k xs
  drop_swap xs j i k d a b l m = grind (arith, swap_is, drop-set-lt, get_or)

  -- A swap of two indices that are in the two parts of a list.
  pub swap_append : (xs ys : List X) (j i : ℕ) (d : X) → length xs ≡ i → j < i → 0 < length ys → swap (xs ++ ys) j i ≡ set xs j (get_or ys 0 d) ++ set ys 0 (get_or xs j d)
  swap_append xs ys j i d n a l =
      let zero_left : i - i ≡ 0 = omega arith in
      let here : get_or (xs ++ ys) j d ≡ get_or xs j d = get_or_append_left xs ys d j (omega arith) in
      let there : get_or (xs ++ ys) i d ≡ get_or ys 0 d = get_or-append_right xs ys i i d n (omega arith) ∙ ap (λ m. get_or ys m d) zero_left in
      let long : length (xs ++ ys) ≡ length xs + length ys = length-append xs ys in
      sym (swap_is (xs ++ ys) j i d (omega arith) (omega arith)) ∙ (λ t. set (set (xs ++ ys) j (there t)) i (here t))
      ∙ ap (λ l. set l i (get_or xs j d)) (set-append_left xs ys j (get_or ys 0 d) (omega arith))
      ∙ set-append_right (set xs j (get_or ys 0 d)) ys i i (get_or xs j d) (length-set xs j (get_or ys 0 d) ∙ n) (omega arith)
      ∙ ap (λ m. set xs j (get_or ys 0 d) ++ set ys m (get_or xs j d)) zero_left

  -- The element at `i` is appended to a front of `k` elements.
  pub front_swapped : (xs ys : List X) (k i : ℕ) (d : X) → k ≤ i → i < length xs → length ys ≡ length xs → SwappedAt xs ys k i
      → (take (k + 1) ys ≡ take k xs ++ get_or xs i d ∷ []) × (drop (i + 1) ys ≡ drop (i + 1) xs)
  front_swapped xs ys k i d a l n s =
      let e : ys ≡ set (set xs k (get_or xs i d)) i (get_or xs k d) = s.3 d in
      let front : take k ys ≡ take k xs = ap (take k) e ∙ take-set-le k (set xs k (get_or xs i d)) i (get_or xs k d) a ∙ take-set-le k xs k (get_or xs i d) (omega arith) in (
        take_more ys k d (omega arith) ∙ (λ t. front t ++ s.0 d t ∷ []),
        ap (drop (i + 1)) e ∙ drop-set-lt (i + 1) (set xs k (get_or xs i d)) i (get_or xs k d) (omega arith) ∙ drop-set-lt (i + 1) xs k (get_or xs i d) (omega arith),
      )

  -- If two lists are the same from `i` on, they have the same element at `i`, and the same rest after it.
  pub rest_more : (xs ys : List X) (i : ℕ) (d : X) → i < length xs → i < length ys → drop i ys ≡ drop i xs → (get_or ys i d ≡ get_or xs i d) × (drop (i + 1) ys ≡ drop (i + 1) xs)
  rest_more xs ys i d l m e = grind (arith, common_steps, drop_more)

module _ {K V : Type 0} where
  -- The value at `i` in the front and the value at 0 in the back are swapped.
  module _ (front back : List (K × V)) (i : ℕ) (p q : K × V) (v w : V) where
    pub keys_of_swapped : keys_of (set front i ((get_or front i p).0, v) ++ set back 0 ((get_or back 0 q).0, w)) ≡ keys_of (front ++ back)
    keys_of_swapped = map-append (λ r. r.0) _ _ ∙ (λ t. key_stays front i p v t ++ key_stays back 0 q w t) ∙ sym (map-append (λ r. r.0) front back)

    pub values_of_swapped : (j : ℕ) → length front ≡ j → i < j → 0 < length back → v ≡ (get_or back 0 q).1 → w ≡ (get_or front i p).1
        → values_of (set front i ((get_or front i p).0, v) ++ set back 0 ((get_or back 0 q).0, w)) ≡ swap (values_of (front ++ back)) i j
    values_of_swapped j n lt some e f =
        let vs = values_of front in
        let ws = values_of back in
        let x : v ≡ get_or ws 0 v = e ∙ sym (get_or-map (λ r. r.1) back 0 q v some) in
        let y : w ≡ get_or vs i v = f ∙ sym (get_or-map (λ r. r.1) front i p v (omega arith)) in
        map-append (λ r. r.1) _ _ ∙ (λ t. map-set (λ r. r.1) front i ((get_or front i p).0, v) t ++ map-set (λ r. r.1) back 0 ((get_or back 0 q).0, w) t)
        ∙ (λ t. set vs i (x t) ++ set ws 0 (y t))
        ∙ sym (swap_append vs ws i j v (length-values_of front ∙ n) lt (omega (arith, length-values_of back)))
        ∙ ap (λ us. swap us i j) (sym (map-append (λ r. r.1) front back))

module _ {K V : Type 0} (eq : K → K → Bool) where
  -- The value at `i`, behind a front of `n` pairs, is swapped with the value at `j`, the first index in the front whose
  -- key is equal to `k`. For the front this is an insertion.
  pub front_put : (l m : List (K × V)) (n j i : ℕ) (k : K) (d : K × V) → j < n → n ≤ i → i < length l → keys_of m ≡ keys_of l → values_of m ≡ swap (values_of l) j i → index_of eq (take n l) k ≡ Some j
      → (take n m ≡ put eq (take n l) k (get_or l i d).1) × (drop (i + 1) m ≡ drop (i + 1) l)
  front_put l m n j i k d a b c same_keys moved first =
      let v = (get_or l i d).1 in
      let vs = values_of l in
      let long = length-values_of l in
      let value : get_or vs i v ≡ v = get_or-map (λ p. p.1) l i d v c in
      let front : take n m ≡ with_value (take n l) j v =
      same_pairs (take n m) (with_value (take n l) j v)
      (sym (take-map (λ p. p.0) n m) ∙ ap (take n) same_keys ∙ take-map (λ p. p.0) n l ∙ sym (keys_of_with_value (take n l) j v))
      (sym (take-map (λ p. p.1) n m) ∙ ap (take n) moved ∙ take_swap vs j i n v a b (omega arith) ∙ (λ t. set (take-map (λ p. p.1) n l t) j (value t)) ∙ sym (values_of_with_value (take n l) j v)) in
      let rest : drop (i + 1) m ≡ drop (i + 1) l =
      same_pairs (drop (i + 1) m) (drop (i + 1) l)
      (sym (drop-map (λ p. p.0) (i + 1) m) ∙ ap (drop (i + 1)) same_keys ∙ drop-map (λ p. p.0) (i + 1) l)
      (sym (drop-map (λ p. p.1) (i + 1) m) ∙ ap (drop (i + 1)) moved ∙ drop_swap vs j i (i + 1) v (omega arith) (omega arith) (omega arith) (omega arith) ∙ drop-map (λ p. p.1) (i + 1) l) in
      (front ∙ sym (put_present eq (take n l) k v j first), rest)
