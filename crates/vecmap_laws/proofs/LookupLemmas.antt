-- What a lookup finds of one pair more, of an absent and of an equal key, after an insertion and after a removal. Lists
-- of distinct keys by the first pair and the rest, and keys that are new to a list.
use Rattle.std.specs.{Cmp.IsEquivalence, List.{list_any, IsDistinct}, Map.keys_of}
use Rattle.std.proofs.Common.{arith, ◌≡◌, Bool, true, false, List, [], ◌∷◌, None, Option, Some, cond, is_some, if◌then◌else◌, refl, sym, ap, ◌∙◌, true≢false, ◌<◌, ◌++◌, ℕ, All, eqb-true, nat_eq, subst}
use Rattle.std.proofs.lemmas.{List.{map-append, Elements.{All-head, All-tail}}, Map.Keys.{IsDistinct-head, IsDistinct-tail}}
use Rattle.vecmap_base.specs.Pairs.{HasDistinctKeys, lookup, lookup_by, put, without_by, without_key}
use Rattle.vecmap_base.proofs.{DistinctLemmas.{none_equal, none_before}, PairsLemmas.ByIndex.{is_some_lookup_by, is_some_index_of}}
use Rattle.vecmap_base.proofs.PairsLemmas.{LookupsAfterChanges.updates_put, Updates.updates_of_without}

module _ {K V : Type 0} (test other : K → Bool) (apart : (k : K) → test k ≡ true → other k ≡ false) where
  -- A query that matches no key of a removal's finds what it found before.
  pub lookup_without_apart : (l : List (K × V)) → lookup_by other (without_by test l) ≡ lookup_by other l
  lookup_without_apart [] = grind (arith)
  lookup_without_apart (p ∷ ps) = grind (arith, (lookup_without_apart ps))

module _ {K V : Type 0} (eq : K → K → Bool) where
  -- A lookup in a list with one pair more.
  pub look : (p : K × V) (ps : List (K × V)) (k : K) (b : Bool) → eq k p.0 ≡ b → lookup eq (p ∷ ps) k ≡ (if b then Some p.1 else lookup eq ps k)
  look p ps k b e = ap (λ c. if c then Some p.1 else lookup eq ps k) e

  pub lookup_absent : (l : List (K × V)) (k : K) → list_any (eq k) (keys_of l) ≡ false → lookup eq l k ≡ None
  lookup_absent l k e = by (lookup eq l k) (is_some_lookup_by (eq k) l ∙ is_some_index_of eq l k ∙ e)
    where
      by : (found : Option V) → is_some found ≡ false → found ≡ None
      by None h = refl
      by (Some v) h = absurd (true≢false h)

  module _ (o : IsEquivalence eq) where
    -- Equal keys have the same value.
    pub lookup_congr : (l : List (K × V)) (x y : K) → eq x y ≡ true → lookup eq l x ≡ lookup eq l y
    lookup_congr [] x y e = grind (arith, look)
    lookup_congr (p ∷ ps) x y e = grind (arith, look, (lookup_congr ps x y e))

    -- After an insertion, its key has its value.
    pub lookup_put : (l : List (K × V)) (k : K) (v : V) → lookup eq (put eq l k v) k ≡ Some v
    lookup_put l k v = (updates_put eq o l k v).own

    -- After an insertion, each other key has its old value.
    pub lookup_put_other : (l : List (K × V)) (k : K) (v : V) (q : K) → eq k q ≡ false → lookup eq (put eq l k v) q ≡ lookup eq l q
    lookup_put_other l k v q n = (updates_put eq o l k v).lookups q ∙ ap (λ b. cond b (Some v) (lookup eq l q)) n

    -- A key that is removed from a list of distinct keys is absent.
    pub lookup_without_key : (l : List (K × V)) (k : K) → HasDistinctKeys eq l → lookup eq (without_key eq l k) k ≡ None
    lookup_without_key l k d = (updates_of_without eq o (eq k) (o.congr k) l (without_key eq l k) refl d).own

    -- After a removal, each other key has its old value.
    pub lookup_without_key_other : (l : List (K × V)) (k q : K) → eq k q ≡ false → lookup eq (without_key eq l k) q ≡ lookup eq l q
    lookup_without_key_other l k q n = lookup_without_apart (eq k) (eq q) (λ x e. o.symm q x ∙ sym (o.congr k x q e) ∙ n) l

module _ {T : Type 0} (eq : T → T → Bool) where
  -- The first of distinct elements is equal to none of the rest.
  pub head_not_in_rest : (x : T) (xs : List T) → IsDistinct eq (x ∷ xs) → list_any (eq x) xs ≡ false
  head_not_in_rest x xs d = none_equal eq x xs (IsDistinct-head eq x xs d)

module _ {K V : Type 0} (eq : K → K → Bool) where
  -- The first of distinct keys has no value in the rest.
  pub head_has_no_value : (p : K × V) (ps : List (K × V)) → HasDistinctKeys eq (p ∷ ps) → lookup eq ps p.0 ≡ None
  head_has_no_value p ps d = lookup_absent eq ps p.0 (head_not_in_rest eq p.0 (keys_of ps) d)

  -- The keys of the rest are distinct.
  pub rest_is_distinct : (p : K × V) (ps : List (K × V)) → HasDistinctKeys eq (p ∷ ps) → HasDistinctKeys eq ps
  rest_is_distinct p ps d = IsDistinct-tail eq p.0 (keys_of ps) d

-- A number above all keys is no key.
pub new_above : {V : Type 0} (l : List (ℕ × V)) (n : ℕ) → All (λ p. p.0 < n) l → lookup nat_eq l n ≡ None
new_above [] n all = refl
new_above {V} (p ∷ ps) n all = by (nat_eq n p.0) refl (new_above ps n (All-tail (λ (q : ℕ × V). q.0 < n) p ps all))
  where
    by : (b : Bool) → nat_eq n p.0 ≡ b → lookup nat_eq ps n ≡ None → (if b then Some p.1 else lookup nat_eq ps n) ≡ None
    by true e rest =
        let same : n ≡ p.0 = eqb-true n p.0 e in
        let below : p.0 < n = All-head (λ (q : ℕ × V). q.0 < n) p ps all in
        absurd (omega arith)
    by false e rest = rest

-- In a list of distinct keys, a key is not among the pairs before its own.
pub absent_before : {K V : Type 0} (eq : K → K → Bool) → IsEquivalence eq → (l m all : List (K × V)) (p : K × V) → l ++ p ∷ m ≡ all → HasDistinctKeys eq all → lookup eq l p.0 ≡ None
absent_before {K} {V} eq o l m all p e d = grind (arith, map-append, lookup_absent, none_before)

-- Nor is it among the pairs of another map, if these have the keys before it.
pub absent_among : {K V W : Type 0} (eq : K → K → Bool) (l : List (K × V)) (k : K) (ks : List K) (all : List (K × W)) → keys_of l ++ k ∷ ks ≡ keys_of all → HasDistinctKeys eq all → IsEquivalence eq → lookup eq l k ≡ None
absent_among eq l k ks all e d o = lookup_absent eq l k (none_before eq o (keys_of l) k ks (subst (IsDistinct eq) (sym e) d))
