-- Shared steps of the calls that return mutable references to a key and to its value. The idea: a `&mut` to a pair is
-- split into a `&mut` to each part.
use Rattle.std.proofs.Common.{◌≡◌, refl, ap, ◌∙◌, ℕ, ◌+◌, List, [], ◌∷◌, Bool, None, Some, ◌++◌, ◌<◌, ◌^◌, w64}
use seplogic.Ra.Ura.{Ura}
use mir.Syntax.{Lifetime}
use mir.Val.{Val, vptr, vstruct, vcons, vnil, of_list, vint}
use base.Fraction.{full_share}
use base.Logic.{SProp, ent, sep, ex, emp, all_e, wand, apply∗, id⊢}
use base.Fml.{Lft, Share, GName, ftrue, fsep, flft, fobs, fbor, fres}
use prog.Memory.{size, align, up}
use types.Logic.{Logic, sem}
use types.Kit.{‵, raw, ◌⊛◌, some, later, ◌$◌, ◌∵◌, !, qed, move, drop, use1, use2, split, split3, join, group, pick, fsplit3, fjoin, fjoin3, fpack, feq_i, show, await, updating, now, done, Item, Seq, Goal, fpick, feq_l, each, assume, by, rewrite, fsplit}
use types.SemTy.{Body}
use types.Mut.{open_ref}
use types.Follow.{after₂, takes_two, followed₂}
use denote.RattleType.{RattleType, Valss}
use denote.Memory.{mem, part_at, part_of}
use denote.Ref.{MutBor, MutRef, mut_vals}
use denote.Param.{param, layout}
use denote.Param.Laws.{Laws, param_laws}
use denote.Steps.{nothing, only, owned}
use denote.Follow.{both_by, follows, followed, follows_by, follows_both, both_if_by}
use denote.Struct.Tuple.{Tuple, tuple_type}
use denote.Struct.Declared.{shape}
use denote.Struct.Struct.{within, Struct}
use denote.Struct.Members.{Member, parts_at}
use denote.Struct.Parts.{shape_of, PartsBack, Struct-parts}
use denote.Builtin.{usize}
use denote.Plain.{uint_Makes, uint_vals}
use denote.Laws.{Is}
use Rattle.vecmap_base.specs.Pairs.{index_by}
use Rattle.std.specs.Option.{option_map_or}
use Rattle.vecmap_map.specs.{Contents.{Contents, with_pair_at, with_pair_by}, contracts.VecMap.the_row}
use Rattle.vecmap_map.specs.Lends.{lends_parts, lends_pair_at, lends_pair_if_at, lends_both_at, lends_both_beside_index}

module _ (KT VT : RattleType) where
  abbrev pub K : RattleType
  K = param 0 KT

  abbrev pub V : RattleType
  V = param 1 VT

  abbrev pub P : RattleType
  P = Tuple (K ∷ V ∷ [])

  abbrev ms : List Member
  ms = record { row = K; ty = layout KT } ∷ record { row = V; ty = layout VT } ∷ []

  abbrev pub at_0 : ℕ → ℕ
  at_0 o = o + up (align (layout KT)) 0

  abbrev pub at_1 : ℕ → ℕ
  at_1 o = o + up (align (layout VT)) (up (align (layout KT)) 0 + size (layout KT))

  module _ (ℓ : Lifetime) (κ : Lft) where
    abbrev pub Both : RattleType
    Both = Tuple (MutRef ℓ κ K ∷ MutRef ℓ κ V ∷ [])

    module _ (p : MutBor P.Denot) where
      abbrev pub parts_of : GName × GName → MutBor K.Denot × MutBor V.Denot
      parts_of γs = (record { ref_ptr = (p.ref_ptr.0, at_0 p.ref_ptr.1); ghost_name = γs.0; now = p.now.0 }, record { ref_ptr = (p.ref_ptr.0, at_1 p.ref_ptr.1); ghost_name = γs.1; now = p.now.1 })

      abbrev pub both_val : Val
      both_val = vstruct (vcons (vptr p.ref_ptr.0 (at_0 p.ref_ptr.1)) (vcons (vptr p.ref_ptr.0 (at_1 p.ref_ptr.1)) vnil))

module _ {M : Type 1} {𝓤 : Ura M} (𝓛 : Logic 𝓤) (KT VT : RattleType) (KL : Laws KT) (VL : Laws VT) (ℓ : Lifetime) (κ : Lft) (q : Share) (p : MutBor (P KT VT).Denot) where
  open 𝓛 use {H, A}

  abbrev b : ℕ
  b = p.ref_ptr.0

  abbrev o : ℕ
  o = p.ref_ptr.1

  abbrev Rest : SProp 𝓤
  Rest = sep 𝓤 (emp 𝓤) (PartsBack 𝓛 full_share [] (ms KT VT) b o)

  back : (k : KT.Denot) (v : VT.Denot) → ent 𝓤 (sep 𝓤 (sem 𝓛 (part_at (K KT VT) full_share k b (at_0 KT VT o))) (sep 𝓤 (sem 𝓛 (part_at (V KT VT) full_share v b (at_1 KT VT o))) Rest)) (sem 𝓛 (part_at (P KT VT) full_share (k, v) b o))
  unfolding part_of
  back k v =
      qed 𝓛 (‵ (part_at (K KT VT) full_share k b (at_0 KT VT o)) ∷ ‵ (part_at (V KT VT) full_share v b (at_1 KT VT o)) ∷ ‵ ftrue ∷ raw (PartsBack 𝓛 full_share [] (ms KT VT) b o) ∷ []) ∵
      fjoin3 ! $ move ! (1 ∷ []) $ use1 𝓛 (raw (wand 𝓤 (sem 𝓛 (parts_at full_share (ms KT VT) 0 (k, (v, tt)) b o)) (sem 𝓛 (part_at (P KT VT) full_share (k, v) b o))))
      (all_e 𝓤 (λ (x : KT.Denot × (VT.Denot × Unit {0})). wand 𝓤 (sem 𝓛 (parts_at full_share (ms KT VT) 0 x b o)) (sem 𝓛 (part_at (Struct (shape_of [] (ms KT VT))) full_share x b o))) (k, (v, tt))) $
      move ! (1 ∷ 0 ∷ []) $ use2 𝓛 (‵ (part_at (P KT VT) full_share (k, v) b o)) (apply∗ 𝓤 (sem 𝓛 (parts_at full_share (ms KT VT) 0 (k, (v, tt)) b o)) (sem 𝓛 (part_at (P KT VT) full_share (k, v) b o))) $ done !

  abbrev pub Cut : GName × GName → SProp 𝓤
  Cut γs = sep 𝓤 (sem 𝓛 ((Both KT VT ℓ κ).own_val (parts_of KT VT ℓ κ p γs) (both_val KT VT ℓ κ p ∷ []))) (sep 𝓤 (A.lft κ q) (sem 𝓛 (lends_parts (K KT VT) (V KT VT) p (parts_of KT VT ℓ κ p γs))))

  pub cuts : ent 𝓤 (sep 𝓤 (sem 𝓛 ((MutRef ℓ κ (P KT VT)).own_val p (vptr b o ∷ []))) (A.lft κ q)) (H.⇛ (ex 𝓤 Cut))
  unfolding both_by part_of
  cuts =
      let g = p.ghost_name in
      let bs : List RattleType = MutRef ℓ κ (K KT VT) ∷ MutRef ℓ κ (V KT VT) ∷ [] in
      qed 𝓛 (‵ ((MutRef ℓ κ (P KT VT)).own_val p (vptr b o ∷ [])) ∷ ‵ (flft κ q) ∷ []) ∵ updating ! $ fsplit3 ! $ drop ! $ open_ref ! tt (mem (P KT VT)) {b = b} {o = o} $
      use1 𝓛 ((‵ (part_at (K KT VT) full_share p.now.0 b (at_0 KT VT o)) ⊛ ‵ (part_at (V KT VT) full_share p.now.1 b (at_1 KT VT o)) ⊛ ‵ ftrue) ⊛ raw (PartsBack 𝓛 full_share [] (ms KT VT) b o))
      (Struct-parts 𝓛 full_share [] (ms KT VT) ((param_laws 0 KT KL).lawful 𝓛, ((param_laws 1 VT VL).lawful 𝓛, tt)) (p.now.0, (p.now.1, tt)) b o) $ split ! $ split3 ! $
      move ! (2 ∷ 3 ∷ []) $ join ! $ move ! (3 ∷ 4 ∷ 5 ∷ 1 ∷ 2 ∷ 0 ∷ []) $ group ! 6 $
      use1 𝓛 (later (some (λ (γs : GName × GName). (‵ (fobs γs.0 ((K KT VT).coded.code p.now.0)) ⊛ ‵ (fbor κ (Body (mem (K KT VT)) b (at_0 KT VT o) γs.0))) ⊛ (‵ (fobs γs.1 ((V KT VT).coded.code p.now.1)) ⊛ ‵ (fbor κ (Body (mem (V KT VT)) b (at_1 KT VT o) γs.1)))
      ⊛ ‵ (flft κ q) ⊛ ‵ (after₂ (mem (P KT VT)) (mem (K KT VT)) (mem (V KT VT)) g γs.0 γs.1 (λ k v. (k, v))))))
      (takes_two 𝓛 (mem (P KT VT)) (mem (K KT VT)) (mem (V KT VT)) (λ k v. (k, v)) κ q b o b (at_0 KT VT o) b (at_1 KT VT o) g Rest back ((P KT VT).coded.code p.now) ((P KT VT).coded.code p.now) p.now.0 p.now.1) $ await ! tt $ pick ! (λ γs. split3 ! $
      split ! $ feq_i ! (List Val) (vptr b (at_0 KT VT o) ∷ []) (vptr b (at_0 KT VT o) ∷ []) refl $ fjoin3 ! $ move ! (1 ∷ []) $
      split ! $ feq_i ! (List Val) (vptr b (at_1 KT VT o) ∷ []) (vptr b (at_1 KT VT o) ∷ []) refl $ fjoin3 ! $
      nothing ! $ move ! (1 ∷ 0 ∷ []) $ fjoin ! $ move ! (1 ∷ 0 ∷ []) $ fjoin ! $ feq_i ! (List Val) (both_val KT VT ℓ κ p ∷ []) (both_val KT VT ℓ κ p ∷ []) refl $ fjoin ! $
      fpack ! (Valss bs) (within (shape (tuple_type bs)) ((parts_of KT VT ℓ κ p γs).0, ((parts_of KT VT ℓ κ p γs).1, tt)) (both_val KT VT ℓ κ p ∷ [])) (vptr b (at_0 KT VT o) ∷ [], (vptr b (at_1 KT VT o) ∷ [], tt)) $
      now ! $ show ! Cut γs $ done !)

module _ {M : Type 1} {𝓤 : Ura M} (𝓛 : Logic 𝓤) (K V : RattleType) (m : MutBor (Contents K.Denot V.Denot)) (i : ℕ) where
  open 𝓛 use {A}

  -- The map follows the pair, and the pair follows its two parts.
  pub parts_then : (p : MutBor (K.Denot × V.Denot)) (r : MutBor K.Denot × MutBor V.Denot)
      → ent 𝓤 (sep 𝓤 (sem 𝓛 (lends_pair_at K V m i p)) (sem 𝓛 (lends_parts K V p r))) (sem 𝓛 (follows_both (the_row K V) K V m.ghost_name r.0.ghost_name r.1.ghost_name (λ k v. with_pair_at m.now i (k, v))))
  unfolding both_by
  parts_then p r =
      let R : RattleType = the_row K V in let P : RattleType = Tuple (K ∷ V ∷ []) in let F : K.Denot × V.Denot → Contents K.Denot V.Denot = λ q. with_pair_at m.now i q in
      qed 𝓛 (‵ (follows R P m.ghost_name p.ghost_name F) ∷ ‵ (follows_both P K V p.ghost_name r.0.ghost_name r.1.ghost_name (λ k v. (k, v))) ∷ []) ∵
      each ! (λ (w : K.Denot × V.Denot). wand 𝓤 (sep 𝓤 (A.res r.0.ghost_name (K.coded.code w.0)) (A.res r.1.ghost_name (V.coded.code w.1))) (A.res m.ghost_name (R.coded.code (F (w.0, w.1))))) (λ w.
      assume ! (‵ (fsep (fres r.0.ghost_name (K.coded.code w.0)) (fres r.1.ghost_name (V.coded.code w.1)))) $ move ! (0 ∷ 2 ∷ []) $
      use2 𝓛 (‵ (fres p.ghost_name (P.coded.code (w.0, w.1)))) (followed₂ 𝓛 (mem P) (mem K) (mem V) (λ k v. (k, v)) p.ghost_name r.0.ghost_name r.1.ghost_name w.0 w.1) $
      move ! (1 ∷ 0 ∷ []) $ by ! (followed 𝓛 R P F m.ghost_name p.ghost_name (w.0, w.1)))

  pub both_then : (p : MutBor (K.Denot × V.Denot)) (r : MutBor K.Denot × MutBor V.Denot)
      → ent 𝓤 (sep 𝓤 (sem 𝓛 (lends_pair_if_at K V m i (Some p))) (sem 𝓛 (lends_parts K V p r))) (sem 𝓛 (lends_both_at K V m i (Some r)))
  unfolding follows_by both_if_by
  both_then p r = parts_then p r

  -- No references are returned.
  pub nothing_both : ent 𝓤 (sem 𝓛 (lends_pair_if_at K V m i None)) (sem 𝓛 (lends_both_at K V m i None))
  unfolding follows_by both_if_by
  nothing_both = id⊢ 𝓤 _

module _ {M : Type 1} {𝓤 : Ura M} (𝓛 : Logic 𝓤) (K V : RattleType) (m : MutBor (Contents K.Denot V.Denot)) (test : K.Denot → Bool) where
  -- References at the first index that passes the test are references by the test.
  pub both_index_then : (i : ℕ) (p : MutBor (K.Denot × V.Denot)) (r : MutBor K.Denot × MutBor V.Denot) → Some i ≡ index_by test m.now.entries
      → ent 𝓤 (sep 𝓤 (sem 𝓛 (lends_pair_at K V m i p)) (sem 𝓛 (lends_parts K V p r))) (sem 𝓛 (lends_both_beside_index K V m test (Some (i, r.0, r.1))))
  unfolding both_if_by
  both_index_then i p r at =
      let F : K.Denot → V.Denot → Contents K.Denot V.Denot = λ key v. with_pair_at m.now i (key, v) in
      let same : F ≡ (λ key v. with_pair_by test m.now (key, v)) = λ j key v. option_map_or (λ n. with_pair_at m.now n (key, v)) (at j) m.now in
      qed 𝓛 (‵ (lends_pair_at K V m i p) ∷ ‵ (lends_parts K V p r) ∷ []) ∵
      use2 𝓛 (‵ (follows_both (the_row K V) K V m.ghost_name r.0.ghost_name r.1.ghost_name F)) (parts_then 𝓛 K V m i p r) $
      rewrite ! 0 (λ (f : K.Denot → V.Denot → Contents K.Denot V.Denot). ‵ (follows_both (the_row K V) K V m.ghost_name r.0.ghost_name r.1.ghost_name f)) same refl $ done !

  -- Without references the map stays.
  pub stays_unlent : ent 𝓤 (𝓛.A.res m.ghost_name ((the_row K V).coded.code m.now)) (sem 𝓛 (lends_both_beside_index K V m test None))
  unfolding both_if_by
  stays_unlent = id⊢ 𝓤 _

-- Splits two `&mut`s into their parts, and makes a tuple of an index and the two.
module _ (ℓ : Lifetime) (κ : Lft) (K V : RattleType) where
  abbrev Key : RattleType
  Key = MutRef ℓ κ K

  abbrev Value : RattleType
  Value = MutRef ℓ κ V

  module _ {M : Type 1} {𝓤 : Ura M} {𝓛 : Logic 𝓤} {X : Type 0} {Γ : List (Item 𝓤)} {G : Goal 𝓤 𝓛.H} where
    pub by_both : X → (r : MutBor K.Denot × MutBor V.Denot) (v : Val)
        → (v ≡ vstruct (vcons (vptr r.0.ref_ptr.0 r.0.ref_ptr.1) (vcons (vptr r.1.ref_ptr.0 r.1.ref_ptr.1) vnil)) → Seq X 𝓛 (‵ (Key.own_val r.0 (mut_vals r.0)) ∷ ‵ (Value.own_val r.1 (mut_vals r.1)) ∷ Γ) G)
        → Seq X 𝓛 (‵ ((Tuple (Key ∷ Value ∷ [])).own_val r (v ∷ [])) ∷ Γ) G
    by_both t r v k =
        fpick t (λ vss. fsplit t $ feq_l t (λ is. fsplit t $ fsplit3 t $ feq_l t (λ e. feq_i t (List Val) (mut_vals r.0) (mut_vals r.0) refl $ fjoin3 t $ move t (1 ∷ []) $ fsplit t $ move t (1 ∷ []) $ drop t $
        fsplit3 t $ feq_l t (λ e'. feq_i t (List Val) (mut_vals r.1) (mut_vals r.1) refl $ fjoin3 t $ move t (1 ∷ 0 ∷ []) $
        k (ap only is ∙ ap (λ (z : List Val × List Val). vstruct (of_list (z.0 ++ (z.1 ++ [])))) (λ j. (e j, e' j)))))))

  pub beside_index : {M : Type 1} {𝓤 : Ura M} (𝓛 : Logic 𝓤) (i : ℕ) → i < 2 ^ 64 → (r : MutBor K.Denot × MutBor V.Denot)
      → ent 𝓤 (sep 𝓤 (sem 𝓛 (Key.own_val r.0 (mut_vals r.0))) (sem 𝓛 (Value.own_val r.1 (mut_vals r.1))))
      (sem 𝓛 ((Tuple (usize ∷ Key ∷ Value ∷ [])).own_val (i, r.0, r.1) (vstruct (vcons (vint w64 i) (vcons (vptr r.0.ref_ptr.0 r.0.ref_ptr.1) (vcons (vptr r.1.ref_ptr.0 r.1.ref_ptr.1) vnil))) ∷ [])))
  beside_index {𝓤 = 𝓤} 𝓛 i fits r =
      let bs : List RattleType = usize ∷ Key ∷ Value ∷ [] in
      let w : Val = vstruct (vcons (vint w64 i) (vcons (vptr r.0.ref_ptr.0 r.0.ref_ptr.1) (vcons (vptr r.1.ref_ptr.0 r.1.ref_ptr.1) vnil))) in
      qed 𝓛 (‵ (Key.own_val r.0 (mut_vals r.0)) ∷ ‵ (Value.own_val r.1 (mut_vals r.1)) ∷ []) ∵
      nothing ! $ move ! (2 ∷ 0 ∷ []) $ fjoin ! $ move ! (1 ∷ 0 ∷ []) $ fjoin ! $ owned ! usize (Is usize) (uint_Makes 𝓛 w64) i (uint_vals w64 i) (refl, fits) $ fjoin ! $
      feq_i ! (List Val) (w ∷ []) (w ∷ []) refl $ fjoin ! $
      fpack ! (Valss bs) (within (shape (tuple_type bs)) (i, (r.0, (r.1, tt))) (w ∷ [])) (uint_vals w64 i, (mut_vals r.0, (mut_vals r.1, tt))) $ done !
