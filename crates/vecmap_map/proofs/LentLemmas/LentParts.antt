-- Shared steps of the calls that return a mutable reference to a value, in a tuple in an `Option`. The idea: what is
-- owned of a tuple or an `Option` is split into what is owned of its parts.
use Rattle.std.proofs.Common.{◌≡◌, refl, ap, sym, ◌∙◌, ℕ, List, [], ◌∷◌, ◌++◌, Option, None, Some, slice_get, slice_set, Bool, w64, ◌<◌}
use Rattle.std.{proofs.Common.◌^◌, specs.{Borrow.Bor, Option.option_map_or}}
use Rattle.vecmap_base.{specs.Pairs.{index_by, with_value}, proofs.PairsLemmas.ByIndex.set_value_by_index}
use Rattle.vecmap_map.specs.{Contents.{Contents, with_entries, with_value_at, with_value_by}, contracts.VecMap.the_row}
use Rattle.vecmap_map.specs.Lends.{lends_beside_key, lends_beside_index, lends_value, lends_value_at, lends_pair_if_at}
use Rattle.std.specs.contracts.option.Option as OP
use seplogic.Ra.Ura.{Ura}
use mir.Syntax.{Body, Lifetime}
use mir.Val.{Val, vint, vptr, vstruct, vcons, vnil, of_list}
use base.Logic.{SProp, ent, sep, emp, id⊢}
use base.Fml.{Fml, Lft, GName, fbor, fobs}
use prog.Wp.{Calls, Loops, Env, Wp, after_seq}
use types.Logic.{Logic, sem}
use types.Kit.{Item, Seq, Goal, Post, post, any_q, ‵, raw, ◌$◌, ◌∵◌, !, qed, move, drop, use0, use2, join, fsplit, fsplit3, fjoin, fjoin3, fpick, fpack, feq_i, feq_l, rewrite, done}
use types.Match.{live}
use types.SemTy.{Body as Held}
use contract.Monad.{fact, fact_i}
use denote.RattleType.{RattleType, Valss, owns}
use denote.Enum.Row.{tagged_with}
use denote.Enum.Enum.{form_of, in_a_row}
use denote.Enum.Declared.{shape}
use denote.Ref.{MutBor, MutRef, ShrRef}
use denote.Laws.{Is, shows}
use denote.Memory.{mem}
use denote.Steps.{facts, nothing, only, owned, peeks}
use denote.Builtin.{usize}
use denote.Plain.{uint_Makes, uint_vals}
use denote.Follow.{follows, follows_by, follows_then}
use denote.Struct.Tuple.{Tuple}

module _ {M : Type 1} (𝓤 : Ura M) (𝓛 : Logic 𝓤) where
  open 𝓛 use {H}

  -- What runs after an arm.
  abbrev pub then_runs : Calls 𝓤 H → Loops 𝓤 H → Env 𝓤 H → Body → Post 𝓤 H → Post 𝓤 H
  then_runs C Λ E b q = any_q (after_seq 𝓤 H (Wp 𝓤 H C Λ E b (post 𝓤 H q)) (post 𝓤 H q))

  -- Adds two facts, and an assertion that needs nothing, to an assertion.
  pub beside : (P Q : SProp 𝓤) (F G : Type 0) → F → G → ent 𝓤 (emp 𝓤) Q → ent 𝓤 P (sep 𝓤 P (sep 𝓤 (fact 𝓤 F) (sep 𝓤 (fact 𝓤 G) Q)))
  beside P Q F G f g q =
      qed 𝓛 (raw P ∷ []) ∵ use0 𝓛 (raw Q) q $ use0 𝓛 (raw (fact 𝓤 G)) (fact_i 𝓤 G (emp 𝓤) g) $ join ! $ use0 𝓛 (raw (fact 𝓤 F)) (fact_i 𝓤 F (emp 𝓤) f) $ join ! $ move ! (1 ∷ 0 ∷ []) $ done !

  pub beside_facts : (P : SProp 𝓤) (F G : Type 0) → F → G → ent 𝓤 P (sep 𝓤 P (sep 𝓤 (fact 𝓤 F) (sep 𝓤 (fact 𝓤 G) (emp 𝓤))))
  beside_facts P F G f g = beside P (emp 𝓤) F G f g (id⊢ 𝓤 (emp 𝓤))

-- Splits an `Option` of a `&mut` into its two cases.
module _ {M : Type 1} {𝓤 : Ura M} {𝓛 : Logic 𝓤} {K : Type 0} {Γ : List (Item 𝓤)} {G : Goal 𝓤 𝓛.H} (ℓ : Lifetime) (κ : Lft) (R : RattleType) where
  pub by_cases : K → (P : Option (MutBor R.Denot) → Fml) (x : Option (MutBor R.Denot)) (v : Val)
      → ((p : MutBor R.Denot) → x ≡ Some p → v ≡ live 1 (vcons (vptr p.ref_ptr.0 p.ref_ptr.1) vnil)
      → Seq K 𝓛 (‵ ((MutRef ℓ κ R).own_val p (vptr p.ref_ptr.0 p.ref_ptr.1 ∷ [])) ∷ ‵ (P (Some p)) ∷ Γ) G)
      → (x ≡ None → v ≡ live 0 vnil → Seq K 𝓛 (‵ (P None) ∷ Γ) G)
      → Seq K 𝓛 (‵ ((OP.the_row (MutRef ℓ κ R)).own_val x (v ∷ [])) ∷ ‵ (P x) ∷ Γ) G
  by_cases t P None v some none =
      fpick t (λ us. fsplit t $ feq_l t (λ is. fpick t (λ vss. fsplit t $ feq_l t (λ is'. drop t $ none refl (ap only is ∙ ap (λ (ws : List Val). live 0 (of_list ws)) is')))))
  by_cases t P (Some p) v some none =
      fpick t (λ us. fsplit t $ feq_l t (λ is. fpick t (λ vss. fsplit t $ feq_l t (λ is'. fsplit t $ move t (1 ∷ []) $ drop t $ fsplit3 t $ feq_l t (λ e.
      feq_i t (List Val) (vptr p.ref_ptr.0 p.ref_ptr.1 ∷ []) (vptr p.ref_ptr.0 p.ref_ptr.1 ∷ []) refl $ fjoin3 t $
      some p refl (ap only is ∙ ap (λ (ws : List Val). live 1 (of_list ws)) (is' ∙ ap (λ (ws : List Val). ws ++ []) e)))))))

-- Splits an `Option` of a `&` and a `&mut` into its two cases.
module _ (ℓ : Lifetime) (κ : Lft) (R T : RattleType) where
  abbrev pub Ends : RattleType
  Ends = Tuple (ShrRef ℓ κ R ∷ MutRef ℓ κ T ∷ [])

  abbrev pub ends_val : Bor R.Denot × MutBor T.Denot → Val
  ends_val r = vstruct (vcons (vptr r.0.ref_ptr.0 r.0.ref_ptr.1) (vcons (vptr r.1.ref_ptr.0 r.1.ref_ptr.1) vnil))

  pub is_ends : (r : Bor R.Denot × MutBor T.Denot) (us : List Val) → Is Ends r us → us ≡ ends_val r ∷ []
  is_ends r us told = told.1.0 ∙ ap (λ (z : List Val × List Val). vstruct (of_list (z.0 ++ (z.1 ++ []))) ∷ []) (λ j. (told.1.1.0.0 j, told.1.1.1.0.0 j))

  module _ {M : Type 1} {𝓤 : Ura M} {𝓛 : Logic 𝓤} {K : Type 0} {Γ : List (Item 𝓤)} {G : Goal 𝓤 𝓛.H} where
    pub by_ends : K → (x : Option (Bor R.Denot × MutBor T.Denot)) (v : Val)
        → ((r : Bor R.Denot × MutBor T.Denot) → v ≡ live 1 (vcons (ends_val r) vnil) → Seq K 𝓛 (‵ ((OP.the_row Ends).own_val x (v ∷ [])) ∷ Γ) G)
        → (v ≡ live 0 vnil → Seq K 𝓛 (‵ ((OP.the_row Ends).own_val x (v ∷ [])) ∷ Γ) G)
        → Seq K 𝓛 (‵ ((OP.the_row Ends).own_val x (v ∷ [])) ∷ Γ) G
    by_ends t None v some none =
        peeks t (OP.the_row Ends) (Is (OP.the_row Ends)) (shows 𝓛 (OP.the_row Ends)) None (v ∷ []) (λ told. none (ap only told.1.0 ∙ ap (λ (ws : List Val). live 0 (of_list ws)) told.1.1.1.0))
    by_ends t (Some r) v some none =
        peeks t (OP.the_row Ends) (Is (OP.the_row Ends)) (shows 𝓛 (OP.the_row Ends)) (Some r) (v ∷ [])
        (λ told. some r (ap only told.1.0 ∙ ap (λ (ws : List Val). live 1 (of_list ws)) (told.1.1.1.0 ∙ ap (λ (ws : List Val). ws ++ []) (is_ends r _ told.1.1.1.1.0))))

-- Splits a pair of a value and a `&mut`, which is m at another address, into its two parts.
module _ (ℓ : Lifetime) (κ : Lft) (X R : RattleType) {M : Type 1} {𝓤 : Ura M} {𝓛 : Logic 𝓤} {K : Type 0} {Γ : List (Item 𝓤)} {G : Goal 𝓤 𝓛.H} where
  pub by_parts : K → (x : X.Denot × MutBor R.Denot) (v : Val) (m : MutBor R.Denot) → x.1.ghost_name ≡ m.ghost_name → x.1.now ≡ m.now
      → ((us : List Val) → v ≡ vstruct (of_list (us ++ vptr x.1.ref_ptr.0 x.1.ref_ptr.1 ∷ []))
      → Seq K 𝓛 (‵ (X.own_val x.0 us) ∷ ‵ ((MutRef ℓ κ R).own_val (record m { ref_ptr = x.1.ref_ptr }) (vptr x.1.ref_ptr.0 x.1.ref_ptr.1 ∷ [])) ∷ Γ) G)
      → Seq K 𝓛 (‵ ((Tuple (X ∷ MutRef ℓ κ R ∷ [])).own_val x (v ∷ [])) ∷ Γ) G
  by_parts t x v m name same k =
      let b : ℕ = x.1.ref_ptr.0 in let o : ℕ = x.1.ref_ptr.1 in
      fpick t (λ vss. fsplit t $ feq_l t (λ is. fsplit t $ move t (1 ∷ []) $ fsplit t $ move t (1 ∷ []) $ drop t $ fsplit3 t $ feq_l t (λ e.
      rewrite t 0 (λ (γ : GName). ‵ (fobs γ (R.coded.code x.1.now))) name refl $ rewrite t 0 (λ (n : R.Denot). ‵ (fobs m.ghost_name (R.coded.code n))) same refl $
      rewrite t 1 (λ (γ : GName). ‵ (fbor κ (Held (mem R) b o γ))) name refl $
      feq_i t (List Val) (vptr b o ∷ []) (vptr b o ∷ []) refl $ fjoin3 t $ move t (1 ∷ 0 ∷ []) $
      k vss.0 (ap only is ∙ ap (λ (ws : List Val). vstruct (of_list (vss.0 ++ (ws ++ [])))) e))))

-- Splits an `Option` of a number into its two cases.
module _ {M : Type 1} {𝓤 : Ura M} {𝓛 : Logic 𝓤} {K : Type 0} {Γ : List (Item 𝓤)} {G : Goal 𝓤 𝓛.H} where
  pub by_index : K → (x : Option ℕ) (us : List Val)
      → ((i : ℕ) → x ≡ Some i → us ≡ live 1 (vcons (vint w64 i) vnil) ∷ [] → i < 2 ^ 64 → Seq K 𝓛 (‵ (usize.own_val i (uint_vals w64 i)) ∷ Γ) G)
      → (x ≡ None → us ≡ live 0 vnil ∷ [] → Seq K 𝓛 Γ G)
      → Seq K 𝓛 (‵ ((OP.the_row usize).own_val x us) ∷ Γ) G
  by_index t None us some none =
      facts t (OP.the_row usize) (Is (OP.the_row usize)) (shows 𝓛 (OP.the_row usize)) None us (λ told. none refl (told.1.0 ∙ ap (λ (ws : List Val). live 0 (of_list ws) ∷ []) told.1.1.1.0))
  by_index t (Some i) us some none =
      facts t (OP.the_row usize) (Is (OP.the_row usize)) (shows 𝓛 (OP.the_row usize)) (Some i) us
      (λ told. owned t usize (Is usize) (uint_Makes 𝓛 w64) i (uint_vals w64 i) (refl, told.1.1.1.1.0.1) $
      some i refl (told.1.0 ∙ ap (λ (ws : List Val). live 1 (of_list ws) ∷ []) (told.1.1.1.0 ∙ ap (λ (ws : List Val). ws ++ []) told.1.1.1.1.0.0)) told.1.1.1.1.0.1)

-- Makes an `Option` of one machine value.
module _ {M : Type 1} {𝓤 : Ura M} (𝓛 : Logic 𝓤) (X : RattleType) where
  pub some_of : (x : X.Denot) (v : Val) → ent 𝓤 (sem 𝓛 (X.own_val x (v ∷ []))) (sem 𝓛 ((OP.the_row X).own_val (Some x) (live 1 (vcons v vnil) ∷ [])))
  some_of x v =
      qed 𝓛 (‵ (X.own_val x (v ∷ [])) ∷ []) ∵ nothing ! $ move ! (1 ∷ 0 ∷ []) $ fjoin ! $ feq_i ! (List Val) (v ∷ []) (v ∷ []) refl $ fjoin ! $
      fpack ! (Valss (X ∷ [])) (in_a_row (X ∷ []) (owns (X ∷ []) (x, tt)) (v ∷ [])) (v ∷ [], tt) $
      feq_i ! (List Val) (live 1 (of_list (v ∷ [])) ∷ []) (live 1 (of_list (v ∷ [])) ∷ []) refl $ fjoin ! $
      fpack ! (List Val) (tagged_with (form_of (shape (OP.the_type X))) (form_of (shape (OP.the_type X))).payload ((OP.the_type X).to (Some x)) (live 1 (of_list (v ∷ [])) ∷ [])) (v ∷ []) $ done !

  pub none_of : ent 𝓤 (emp 𝓤) (sem 𝓛 ((OP.the_row X).own_val None (live 0 vnil ∷ [])))
  none_of =
      qed 𝓛 [] ∵ nothing ! $ feq_i ! (List Val) [] [] refl $ fjoin ! $ fpack ! (Valss []) (in_a_row [] (owns [] tt) []) tt $
      feq_i ! (List Val) (live 0 (of_list []) ∷ []) (live 0 (of_list []) ∷ []) refl $ fjoin ! $
      fpack ! (List Val) (tagged_with (form_of (shape (OP.the_type X))) (form_of (shape (OP.the_type X))).payload ((OP.the_type X).to None) (live 0 (of_list []) ∷ [])) [] $ done !

-- A write of the value of the pair at the index i.
set-value : {K V : Type 0} (l : List (K × V)) (i : ℕ) (p : K × V) (v : V) → slice_get l i ≡ Some p → slice_set l i (p.0, v) ≡ with_value l i v
set-value l i p v at = rw at refl

module _ {M : Type 1} {𝓤 : Ura M} (𝓛 : Logic 𝓤) (K V : RattleType) (m : MutBor (Contents K.Denot V.Denot)) (i : ℕ) where
  open 𝓛 use {A}

  -- The map follows the pair, and the pair follows its value.
  pub value_then : (p : MutBor (K.Denot × V.Denot)) (r : Bor K.Denot × MutBor V.Denot) → slice_get m.now.entries i ≡ Some p.now
      → ent 𝓤 (sep 𝓤 (sem 𝓛 (lends_pair_if_at K V m i (Some p))) (sem 𝓛 (lends_value K V p r.1))) (sem 𝓛 (lends_beside_key K V m i (Some r)))
  unfolding follows_by
  value_then p r at =
      let P : RattleType = Tuple (K ∷ V ∷ []) in
      let F : V.Denot → Contents K.Denot V.Denot = λ v. with_entries m.now (slice_set m.now.entries i (p.now.0, v)) in
      let same : F ≡ with_value_at m.now i = λ j v. with_entries m.now (set-value m.now.entries i p.now v at j) in
      qed 𝓛 (‵ (follows (the_row K V) P m.ghost_name p.ghost_name (λ q. with_entries m.now (slice_set m.now.entries i q))) ∷ ‵ (follows P V p.ghost_name r.1.ghost_name (λ v. (p.now.0, v))) ∷ []) ∵
      use2 𝓛 (‵ (follows (the_row K V) V m.ghost_name r.1.ghost_name F)) (follows_then 𝓛 (the_row K V) P V (λ q. with_entries m.now (slice_set m.now.entries i q)) (λ v. (p.now.0, v)) m.ghost_name p.ghost_name r.1.ghost_name) $
      rewrite ! 0 (λ (f : V.Denot → Contents K.Denot V.Denot). ‵ (follows (the_row K V) V m.ghost_name r.1.ghost_name f)) same refl $ done !

  -- No reference is returned.
  pub nothing_then : ent 𝓤 (sem 𝓛 (lends_pair_if_at K V m i None)) (sem 𝓛 (lends_beside_key K V m i None))
  unfolding follows_by
  nothing_then = id⊢ 𝓤 _

module _ {M : Type 1} {𝓤 : Ura M} (𝓛 : Logic 𝓤) (K V : RattleType) (m : MutBor (Contents K.Denot V.Denot)) (test : K.Denot → Bool) where
  -- A reference to the value at the first index that passes the test is a reference by the test.
  pub index_then : (i : ℕ) (r : ℕ × Bor K.Denot × MutBor V.Denot) → Some i ≡ index_by test m.now.entries
      → ent 𝓤 (sem 𝓛 (lends_value_at K V m i r.2)) (sem 𝓛 (lends_beside_index K V m test (Some r)))
  unfolding follows_by
  index_then i r at =
      let same : with_value_at m.now i ≡ with_value_by test m.now =
      λ j v. with_entries m.now ((ap (λ o. option_map_or (λ n. with_value m.now.entries n v) o m.now.entries) at ∙ sym (set_value_by_index test m.now.entries v)) j) in
      qed 𝓛 (‵ (lends_value_at K V m i r.2) ∷ []) ∵ rewrite ! 0 (λ (f : V.Denot → Contents K.Denot V.Denot). ‵ (follows (the_row K V) V m.ghost_name r.2.ghost_name f)) same refl $ done !

  -- Without a reference the map stays.
  pub stays_at_none : ent 𝓤 (𝓛.A.res m.ghost_name ((the_row K V).coded.code m.now)) (sem 𝓛 (lends_beside_index K V m test None))
  unfolding follows_by
  stays_at_none = id⊢ 𝓤 _
