-- How a `VecMap` stores its values. By this file a type may hold a map of values of that same type.
use Rattle.std.specs.{Prelude.{◌≡◌, ◌+◌, ℕ, Bool, ◌&&◌, cond, max, List, [], ◌∷◌, map, nat_eq}, declared.alloc.Global.Global, Map.values_of}
use mathlib.Core.Path.{refl, sym, ap, ◌∙◌}
use mathlib.Core.Former.{Former, Count, Row, this, const, pair, list, via, children, list_count, list_put}
use native.Mathlib.Omega.{arith}
use base.Stored.{code_map, coded×, coded_list, coded_ℕ, gcons}
use denote.RattleType.{RattleType}
use denote.Struct.Tuple.{Tuple, tuple_type}
use denote.HoleLaws.{Alike}
use denote.HolePlaces.{Recodes, struct_places, laid, stays}
use denote.Hole.Carrier.{listed}
use denote.Hole.Fix.{over}
use denote.Param.Nested.{deepest}
use denote.Param.Weighed.{Weighed, most, List-puts, w_pair, w_const}
use denote.Model.Placed.{view_places}
use Rattle.std.specs.formers.vec.Vec as vec
use Rattle.std.specs.declared.cmp.PartialEq as eq
use Rattle.std.specs.contracts.alloc.Global as heap
use Rattle.std.specs.contracts.impls.GlobalAllocator.TheImpl.{ghosts}
use Rattle.std.proofs.lemmas.List.Sums.{sum_by-cons}
use Rattle.vecmap_base.specs.Equality.{count, counts_agree, has_same_counts, same_pair}
use Rattle.vecmap_map.specs.{Contents.Contents, declared.VecMap.TheInside.Inside, declared.VecMap.TheView.{view, invariant}}
use Rattle.vecmap_map.specs.contracts.VecMap as C
use Rattle.vecmap_map.specs.contracts.VecMap.TheInside as I

-- A pair of a key and what `g` makes of a value.
abbrev entry : Former {0} → Type 0 → Former {0}
entry g K = pair (const K) g

-- The pair with another value.
abbrev on_value : {K X Y : Type 0} → (X → Y) → K × X → K × Y
on_value h p = (p.0, h p.1)

-- A map is the list of its pairs and its capacity.
abbrev pub the_former : Former {0} → Type 0 → Former {0}
the_former g K = via (pair (list (entry g K)) (const ℕ)) (λ X. Contents K (g.Of X)) (λ X m. (m.entries, m.capacity)) (λ X v. record { entries = v.0; capacity = v.1 }) (λ X m. refl) (λ X v. refl)

-- A recursion that takes a value from the pairs, as by `iter`, decreases by the first form. One that takes it from the
-- list of the values, as by `values`, decreases by the second.
-- The largest measure of a value, in two forms that are equal.
abbrev pub heaviest : {K Y : Type 0} → (Y → ℕ) → List (K × Y) → ℕ
heaviest f es = max (most (λ p. f p.1) es) (most f (values_of es))

heaviest_is : {K Y : Type 0} (f : Y → ℕ) (es : List (K × Y)) → most (λ p. max 0 (f p.1)) es ≡ heaviest f es
heaviest_is f [] = refl
heaviest_is f (e ∷ es) = let rest = heaviest_is f es in omega (arith, rest)

pub entries_puts : {g : Former {0}} (w : Weighed g) (K X : Type 0) (μ : X → ℕ) (es : List (K × g.Of X)) (n : Count) (t : Row X n)
    → deepest μ (list_count (entry g K) (map ((entry g K).shape X) es) n) (list_put (entry g K) X es n t) ≡ max (heaviest (w.weight X μ) es) (deepest μ n t)
entries_puts w K X μ es n t = List-puts (w_pair (w_const K) w) X μ es n t ∙ ap (λ a. max a (deepest μ n t)) (heaviest_is (w.weight X μ) es)

-- How a map of weighed values is weighed: by its heaviest value.
abbrev pub the_weighed : {g : Former {0}} → Weighed g → (K : Type 0) → Weighed (the_former g K)
the_weighed w K = record { weight = λ X μ m. heaviest (w.weight X μ) m.entries; puts = λ X μ m. entries_puts w K X μ m.entries }

-- A map can be empty, so a type may end at one.
pub the_empty : (K : Type 0) → K → Contents K ⊥
the_empty K k = record { entries = []; capacity = 0 }

-- The values of a map, in order.
abbrev pub the_items : (K X : Type 0) → Contents K X → List X
the_items K X m = values_of m.entries

values_listed : (K X : Type 0) (es : List (K × X)) → listed _ (children (list (entry this K)) X es) ≡ values_of es
values_listed K X [] = refl
values_listed K X (e ∷ es) = ap (λ l. e.1 ∷ l) (values_listed K X es)

pub the_items_listed : (K X : Type 0) (m : Contents K X) → listed _ (children (the_former this K) X m) ≡ the_items K X m
the_items_listed K X m = values_listed K X m.entries

-- The private vector stores its values as any vector of pairs does.
abbrev fields : Type 0 → Former {0}
fields K = via (vec.the_former (entry this K) Global) (λ X. Inside K X) (λ X a. a.pairs) (λ X v. record { pairs = v }) (λ X a. refl) (λ X v. refl)

module _ (K R S : RattleType) (h : R.Denot → S.Denot) where
  pair_places : Alike R S h → Alike (Tuple (K ∷ R ∷ [])) (Tuple (K ∷ S ∷ [])) (on_value h)
  pair_places a = struct_places (tuple_type (K ∷ R ∷ [])) (tuple_type (K ∷ S ∷ [])) ((λ k. k), (h, tt)) (on_value h) (λ d. refl) refl (stays K, (laid _ _ _ a, tt))

  pub the_places : Alike R S h → Alike (C.the_row K R) (C.the_row K S) ((the_former this K.Denot).map R.Denot S.Denot h)
  the_places a =
      view_places (fields K.Denot) (the_former this K.Denot) (λ X. view K.Denot X) (λ X Y k u. refl) (λ X u. refl) R.Denot S.Denot h (C.the_row K R).coded (C.the_row K S).coded
      (invariant K.Denot R.Denot) (invariant K.Denot S.Denot) (λ u p q. refl) (λ u p q. refl) (λ u e. tt) (λ u e. tt)
      (over (I.the_row K R)) (over (I.the_row K S))
      (struct_places (I.the_type K R) (I.the_type K S) (vec.mapped (on_value h), tt) _ (λ d. refl) refl (laid _ _ _ (vec.the_places heap.the_row ghosts (Tuple (K ∷ R ∷ [])) (Tuple (K ∷ S ∷ [])) (on_value h) (pair_places a)), tt))

  entries_recoded : Recodes R S h → (es : List (K.Denot × R.Denot)) → (coded_list (coded× K.coded S.coded)).code (map (on_value h) es) ≡ (coded_list (coded× K.coded R.coded)).code es
  entries_recoded e es = sym (code_map (coded× K.coded R.coded).code (coded× K.coded S.coded).code (on_value h) (λ x i. gcons (K.coded.code x.0) (sym (e x.1) i)) es)

  pub the_codes_placed : Recodes R S h → Recodes (C.the_row K R) (C.the_row K S) ((the_former this K.Denot).map R.Denot S.Denot h)
  the_codes_placed e m = ap (λ x. gcons x (coded_ℕ.code m.capacity)) (entries_recoded e m.entries)

-- `==` of maps whose values are mapped by h is `==` of the maps, with values compared along h.
module _ {K X Y : Type 0} (key : K → K → Bool) (value : Y → Y → Bool) (h : X → Y) where
  abbrev along : X → X → Bool
  along x y = value (h x) (h y)

  count_along : (es : List (K × X)) (p : K × X) → count key value (map (on_value h) es) (on_value h p) ≡ count key along es p
  count_along [] p = refl
  count_along (e ∷ es) p =
      sum_by-cons (λ q. cond (same_pair key value (on_value h p) q) 1 0) (on_value h e) (map (on_value h) es)
      ∙ ap (λ n. cond (same_pair key along p e) 1 0 + n) (count_along es p) ∙ sym (sum_by-cons (λ q. cond (same_pair key along p q) 1 0) e es)

  agree_along : (ps es fs : List (K × X)) → counts_agree key value (map (on_value h) ps) (map (on_value h) es) (map (on_value h) fs) ≡ counts_agree key along ps es fs
  agree_along [] es fs = refl
  agree_along (p ∷ ps) es fs = λ i. (same_pair key along p p && nat_eq (count_along es p i) (count_along fs p i)) && agree_along ps es fs i

  same_counts_along : (es fs : List (K × X)) → has_same_counts key value (map (on_value h) es) (map (on_value h) fs) ≡ has_same_counts key along es fs
  same_counts_along es fs = λ i. agree_along es es fs i && agree_along fs es fs i

pub the_eq_natural : (K X Y : Type 0) (h : X → Y) (G : eq.Ghosts K) (V : eq.Ghosts Y) (m n : Contents K X)
    → has_same_counts G.eq V.eq ((the_former this K).map X Y h m).entries ((the_former this K).map X Y h n).entries ≡ has_same_counts G.eq (λ x y. V.eq (h x) (h y)) m.entries n.entries
the_eq_natural K X Y h G V m n = same_counts_along G.eq V.eq h m.entries n.entries
