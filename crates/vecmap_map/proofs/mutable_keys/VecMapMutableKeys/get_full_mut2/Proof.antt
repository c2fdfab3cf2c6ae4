-- The idea: `index_and_map` returns the map with the index of the key, `whole_pair_mut` a reference to the pair at that
-- index, and `parts_mut` splits it.
-- The clause `writes_back` is worth a proof by hand: the others say nothing of the map after the borrow, so a body that
-- changes another pair meets them.
-- The term follows the code of the body, a call at each `calls_at`. The lists of numbers after `move` say only in which
-- order the known facts are used next, so read the calls and the clauses, and not these lists.
use Rattle.vecmap_map.proofs.LentLemmas.Steps
use Steps.{◌≡◌, ℕ, ◌<◌, refl, sym, ap, ◌∙◌, subst, lit<, w64, List, [], ◌∷◌, ◌++◌, Option, Some, None, length, option_map, slice_get, IfSome, Bool, a_type, named, dcons, dnil, Val, vptr, vstruct, vcons, vnil, of_list, vint, inst_fn, option_and_then}
use Steps.{SProp, emp, id⊢, sep, ftrue, flft, ‵, raw, ◌⊛◌, some, later, at_ret, ◌$◌, ◌∵◌, !, qed, by, move, keep, drop, split, join, fjoin, pick, await, use0, use1, use2, split3, fsplit3, done, feq_i, feq_l, fjoin3, sem, name_done}
use Steps.{live, vrt, in_variant, whole, agg, sub, enter, of_opd, lit, addr, stop, fld, no_more, and_then, first, switches_on, exec, returns, alloc_all, pass_all, free_all, look_at, get, get_in, get_tag, through, sets, sets_last, lands_as, env, proved, leaves, after, head, arm_body}
use Steps.{no, RattleType, type_at, plain, RefMutOf, usize, MutBor, mut_vals, mut_Tells, MutRef, uint_vals, param, bounded, nothing, only, heard, Tuple}
use Steps.{fact, fact_i, ◌⊑◌, tables, calls_at, Lasts, lasts, on_entry, alive, Vals, triple_of, framed, Stays, stay_dropped, walk_of, Goes-dropped, Lfts, Shares}
use denote.Param.{copied}
use denote.Param.Laws.{copied_laws}
use Rattle.vecmap_base.specs.Pairs.{index_by, lookup_pair_by}
use Rattle.vecmap_base.proofs.PairsLemmas.ByIndex.{lookup_pair_by_index}
use Rattle.std.specs.contracts.option.Option as OP
use Rattle.vecmap_map.specs.{Lends.{lends_both_beside_index, lends_parts, lends_pair_at}, contracts.VecMap.the_row}
use Rattle.vecmap_map.specs.contracts.mutable_keys.VecMapMutableKeys.get_full_mut2.{ended, clauses, Key.name as #self}
use Rattle.vecmap_map.proofs.LentLemmas.Both.{beside_index, both_index_then, by_both, stays_unlent}
use Rattle.vecmap_map.proofs.LentLemmas.LentParts.{then_runs, beside, beside_facts, by_parts, by_index, some_of, none_of}
use Rattle.vecmap_map.proofs.mutable_keys.VecMapMutableKeys.get_full_mut2.Statement.{statement}
use Rattle.vecmap_map.specs.contracts.VecMap.index_and_map as A
use Rattle.vecmap_map.proofs.VecMap.index_and_map.Met as A-thm
use Rattle.vecmap_map.specs.contracts.VecMap.whole_pair_mut as B
use Rattle.vecmap_map.proofs.VecMap.whole_pair_mut.Met as B-thm
use Rattle.vecmap_map.specs.contracts.mutable_keys.parts_mut as D
use Rattle.vecmap_map.proofs.mutable_keys.parts_mut.Met as D-thm
use Rattle.vecmap_map.proofs.mutable_keys.VecMapMutableKeys.get_full_mut2.Code as code

pub get_full_mut2_spec : {M : Type 1} → statement M
get_full_mut2_spec 𝓤 𝓛 𝓜 𝓡 wired KT VT QT KL VL QL CQ E E-dict C C-dict O O-dict P P-dict E-met C-met O-met P-met =
    let H = 𝓛.H in let 𝓣 = tables 𝓤 H 𝓜 𝓡 𝓡.env in let K : RattleType = param 0 KT in let V : RattleType = param 1 VT in let Q : RattleType = copied 2 QT in let En = ended KT VT QT E E-dict C C-dict O O-dict P P-dict in
    let inst = bounded (a_type ∷ a_type ∷ a_type ∷ []) (KT, (VT, (QT, tt))) (dcons E-dict (dcons C-dict (dcons O-dict (dcons P-dict dnil)))) in let fn = inst_fn inst code.function in
    let Row : RattleType = the_row K V in let c = clauses KT VT QT E E-dict C C-dict O O-dict P P-dict 𝓛 𝓜.mem 𝓡.returns in
    let self = RefMutOf (0 ∷ []) tt (plain (λ _. Row)) (λ _. tt) in let sought = plain (λ _. Q) in
    let hs : Stays En.signature.params En.kept = (stay_dropped self no, (stay_dropped sought no, tt)) in
    proved 𝓛 En hs c 𝓜 𝓡 (Goes-dropped 𝓛 4 self no (λ κs x f. refl), (Goes-dropped 𝓛 4 sought no (λ κs x f. refl), tt)) (#self inst) fn (code.unfolded 𝓤 H 𝓜 𝓡 wired (KT, (VT, (QT, tt))) E-dict C-dict O-dict P-dict)
    (λ κs. (mut_vals, ((λ x. CQ.val x ∷ []), tt))) (λ κs. (mut_Tells (named 0) κs.0 Row, (CQ.tells, tt))) (λ κs qs bounds a gh are.
    let S = En.signature in let m : MutBor Row.Denot = a.0 in let test : K.Denot → Bool = E.equivalent a.1.0 in let w-query : Val = CQ.val a.1.0 in let vs : Vals S κs = (mut_vals m, (w-query ∷ [], tt)) in
    let query-fits = (((copied_laws 2 QT QL).lawful 𝓛).typed a.1.0 (w-query ∷ []) are.1.0).0 in
    let y : (walk_of 𝓛 En hs c).Ghost = ((κs, qs, bounds, a, vs), gh) in let Post : Val → SProp 𝓤 = (walk_of 𝓛 En hs c).post y in
    let Out : RattleType = type_at S.result κs in let found : Option ℕ = index_by test m.now.entries in
    let F : Type 0 = κs.1.0 ⊑ KT.lives in let G : Type 0 = κs.1.1.0 ⊑ VT.lives in let J : Type 0 = κs.1.1.1.0 ⊑ QT.lives in
    let kA = triple_of 𝓛 (A.signature KT VT QT) (A.spec KT VT QT E E-dict C C-dict O O-dict P P-dict 𝓛 𝓜.mem 𝓡.returns) in
    let kB = triple_of 𝓛 (B.signature KT VT) (B.spec KT VT 𝓛 𝓜.mem 𝓡.returns) in let kD = triple_of 𝓛 (D.signature KT VT) (D.spec KT VT 𝓛 𝓜.mem 𝓡.returns) in
    let yA : kA.Ghost = ((κs, qs, bounds, a, vs), tt) in let toks : SProp 𝓤 = alive 𝓛 S κs qs in
    let rest : SProp 𝓤 = sep 𝓤 (sem 𝓛 (flft κs.1.1.1.0 qs.1.1.1.0)) (emp 𝓤) in
    let Found : RattleType = type_at (A.signature KT VT QT).result κs in let Whole : RattleType = MutRef (named 0) κs.0 (Tuple (K ∷ V ∷ [])) in
    let Both : RattleType = Tuple (MutRef (named 0) κs.0 K ∷ MutRef (named 0) κs.0 V ∷ []) in let Parts : RattleType = Tuple (usize ∷ MutRef (named 0) κs.0 K ∷ MutRef (named 0) κs.0 V ∷ []) in
    let Place : Option (ℕ × MutBor K.Denot × MutBor V.Denot) → Type 0 = λ x. option_map (λ u. u.0) x ≡ found in
    let Within : Option (ℕ × MutBor K.Denot × MutBor V.Denot) → Type 0 = λ x. IfSome x (λ u. u.0 < length m.now.entries) in
    let Shown : Option (ℕ × MutBor K.Denot × MutBor V.Denot) → Type 0 = λ x. option_map (λ u. (u.1.now, u.2.now)) x ≡ lookup_pair_by test m.now.entries in
    qed 𝓛 (raw (on_entry 𝓛 S κs qs a vs) ∷ raw (fact 𝓤 F) ∷ raw (fact 𝓤 G) ∷ raw (fact 𝓤 J) ∷ ‵ ftrue ∷ []) ∵ move ! (1 ∷ []) $ heard ! F (λ inK. move ! (1 ∷ []) $ heard ! G (λ inV. move ! (1 ∷ []) $ heard ! J (λ inQ. keep ! (0 ∷ []) $
    enter ! 𝓣.C 𝓣.Λ fn (vptr m.ref_ptr.0 m.ref_ptr.1 ∷ w-query ∷ []) Post $ alloc_all ! (λ l. pass_all ! refl ((tt, tt), (query-fits, tt)) $
    let Ev = env fn.locals l in
    sets ! (addr ! (through ! refl (stop !))) refl (tt, tt) $
    use1 𝓛 (raw (kA.pre yA)) (beside 𝓤 𝓛 (on_entry 𝓛 S κs qs a vs) _ F G inK inV (qed 𝓛 (raw (emp 𝓤) ∷ []) ∵ use0 𝓛 (raw (fact 𝓤 J)) (fact_i 𝓤 J (emp 𝓤) inQ) $ join ! $ done !)) $
    calls_at ! (framed 𝓤 H 𝓜 𝓣) kA (A-thm.met 𝓤 𝓛 𝓜 𝓡 (code.calls-vecmap_map::VecMap::index_and_map 𝓡.env wired) KT VT QT KL VL QL CQ E E-dict C C-dict O O-dict P P-dict E-met C-met O-met P-met) yA (and_then ! (get ! refl) (and_then ! (get ! refl) (no_more !))) (λ v.
    use1 𝓛 (later (some (λ (x : Found.Denot). (raw toks ⊛ ‵ (Found.own_val x (v ∷ [])))
    ⊛ some (λ (ls : Lasts (A.ended KT VT QT E E-dict C C-dict O O-dict P P-dict) κs a). ‵ (lasts (A.ended KT VT QT E E-dict C C-dict O O-dict P P-dict) κs a ls)
    ⊛ (raw (fact 𝓤 (x.0 ≡ found)) ⊛ (raw (fact 𝓤 (IfSome x.0 (λ i. i < length m.now.entries))) ⊛ (raw (fact 𝓤 (x.1.ghost_name ≡ m.ghost_name)) ⊛ raw (fact 𝓤 (x.1.now ≡ m.now)))))))))
    (id⊢ 𝓤 (kA.post yA v)) $
    await ! tt $ pick ! (λ x. split ! $ move ! (1 ∷ []) $ pick ! (λ _. split ! $ drop ! $ split ! $ heard ! _ (λ place. split ! $ heard ! _ (λ within. split ! $ heard ! _ (λ name. heard ! _ (λ same. split ! $ move ! (1 ∷ []) $
    -- [the index and the map; the tokens]
    by_parts (named 0) κs.0 (OP.the_row usize) Row ! x v m name same (λ us is.
    let map : MutBor Row.Denot = record m { ref_ptr = x.1.ref_ptr } in let p : Val = vptr x.1.ref_ptr.0 x.1.ref_ptr.1 in
    by_index ! x.0 us
    (λ i there e fits.
    let at : Some i ≡ found = sym there ∙ place in let here : i < length m.now.entries = subst (λ (z : Option ℕ). IfSome z (λ j. j < length m.now.entries)) there within in
    let κs' : Lfts 3 = (κs.0, (κs.1.0, (κs.1.1.0, tt))) in let qs' : Shares 3 = (qs.0, (qs.1.0, (qs.1.1.0, tt))) in
    let yB : kB.Ghost = ((κs', qs', (bounds.0, (bounds.1.0, tt)), (map, (i, tt)), (mut_vals map, (uint_vals w64 i, tt))), tt) in
    lands_as ! (is ∙ ap (λ (ws : List Val). vstruct (of_list (ws ++ p ∷ []))) e) refl (tt, ((record { fits = lit< tt }, (record { fits = fits }, tt)), (tt, tt))) $
    sets ! (of_opd ! (get_in ! (fld ! refl (stop !)) (sub ! 0 refl (whole !)))) refl (tt, (record { fits = lit< tt }, (record { fits = fits }, tt))) $
    sets ! (of_opd ! (get_in ! (fld ! refl (stop !)) (sub ! 1 refl (whole !)))) refl (tt, tt) $
    first ! $ switches_on ! (get_tag ! (vrt ! refl (fld ! refl (stop !))) (whole !)) $ exec ! 𝓣.C 𝓣.Λ Ev (arm_body 0 (head (after 4 fn.body))) (then_runs 𝓤 𝓛 𝓣.C 𝓣.Λ Ev (after 5 fn.body) (at_ret Ev Post)) $
    sets ! (of_opd ! (get_in ! (vrt ! refl (fld ! refl (stop !))) (in_variant ! 1 0 refl refl (whole !)))) refl (tt, record { fits = fits }) $
    sets ! (addr ! (through ! refl (stop !))) refl (tt, tt) $
    nothing ! $ move ! (1 ∷ 0 ∷ []) $ join ! $ move ! (1 ∷ 0 ∷ []) $ join ! $ move ! (1 ∷ []) $
    use1 𝓛 (‵ (flft κs.0 qs.0) ⊛ ‵ (flft κs.1.0 qs.1.0) ⊛ ‵ (flft κs.1.1.0 qs.1.1.0) ⊛ raw rest) (id⊢ 𝓤 toks) $ split3 ! $ move ! (2 ∷ []) $ split ! $
    nothing ! $ move ! (1 ∷ 0 ∷ []) $ join ! $ move ! (3 ∷ 0 ∷ []) $ join ! $ move ! (2 ∷ 0 ∷ []) $ join ! $ move ! (0 ∷ 2 ∷ []) $ join ! $
    use1 𝓛 (raw (kB.pre yB)) (beside 𝓤 𝓛 (on_entry 𝓛 (B.signature KT VT) κs' qs' (map, (i, tt)) (mut_vals map, (uint_vals w64 i, tt))) _ F G inK inV (fact_i 𝓤 (i < length m.now.entries) (emp 𝓤) here)) $
    calls_at ! (framed 𝓤 H 𝓜 𝓣) kB (B-thm.met 𝓤 𝓛 𝓜 𝓡 (code.calls-vecmap_map::VecMap::whole_pair_mut 𝓡.env wired) KT VT KL VL) yB (and_then ! (get ! refl) (and_then ! (get ! refl) (no_more !))) (λ u.
    use1 𝓛 (later (some (λ (pair : Whole.Denot). ((‵ (flft κs.0 qs.0) ⊛ ‵ (flft κs.1.0 qs.1.0) ⊛ ‵ (flft κs.1.1.0 qs.1.1.0) ⊛ ‵ ftrue) ⊛ ‵ (Whole.own_val pair (u ∷ [])))
    ⊛ some (λ (ls : Lasts (B.ended KT VT) κs' (map, (i, tt))). ‵ (lasts (B.ended KT VT) κs' (map, (i, tt)) ls)
    ⊛ (‵ (lends_pair_at K V m i pair) ⊛ raw (fact 𝓤 (slice_get m.now.entries i ≡ Some pair.now)))))))
    (id⊢ 𝓤 (kB.post yB u)) $
    await ! tt $ pick ! (λ pair. split ! $ move ! (1 ∷ []) $ pick ! (λ _. split ! $ drop ! $ split ! $ move ! (1 ∷ []) $ heard ! _ (λ shown. move ! (1 ∷ []) $ split ! $ move ! (1 ∷ []) $ fsplit3 ! $ feq_l ! (λ e'.
    let yD : kD.Ghost = ((κs', qs', (bounds.0, (bounds.1.0, tt)), (pair, tt), (mut_vals pair, tt)), tt) in
    feq_i ! (List Val) (mut_vals pair) (mut_vals pair) refl $ fjoin3 ! $ lands_as ! (ap only e') refl (tt, tt) $
    nothing ! $ move ! (1 ∷ 0 ∷ []) $ join ! $ move ! (1 ∷ 0 ∷ []) $ join ! $
    use1 𝓛 (raw (kD.pre yD)) (beside_facts 𝓤 𝓛 (on_entry 𝓛 (D.signature KT VT) κs' qs' (pair, tt) (mut_vals pair, tt)) F G inK inV) $
    calls_at ! (framed 𝓤 H 𝓜 𝓣) kD (D-thm.met 𝓤 𝓛 𝓜 𝓡 (code.calls-vecmap_map::mutable_keys::parts_mut 𝓡.env wired) KT VT KL VL) yD (and_then ! (get ! refl) (no_more !)) (λ t.
    use1 𝓛 (later (some (λ (r : Both.Denot). ((‵ (flft κs.0 qs.0) ⊛ ‵ (flft κs.1.0 qs.1.0) ⊛ ‵ (flft κs.1.1.0 qs.1.1.0) ⊛ ‵ ftrue) ⊛ ‵ (Both.own_val r (t ∷ [])))
    ⊛ some (λ (ls : Lasts (D.ended KT VT) κs' (pair, tt)). ‵ (lasts (D.ended KT VT) κs' (pair, tt) ls)
    ⊛ (‵ (lends_parts K V pair r) ⊛ raw (fact 𝓤 (pair.now ≡ (r.0.now, r.1.now))))))))
    (id⊢ 𝓤 (kD.post yD t)) $
    await ! tt $ pick ! (λ r. split ! $ move ! (1 ∷ []) $ pick ! (λ _. split ! $ drop ! $ split ! $ move ! (1 ∷ []) $ heard ! _ (λ parts.
    move ! (2 ∷ 0 ∷ []) $ use2 𝓛 (‵ (lends_both_beside_index K V m test (Some (i, r.0, r.1)))) (both_index_then 𝓛 K V m test i pair r at) $
    move ! (1 ∷ []) $ split ! $ split3 ! $ move ! (2 ∷ []) $ split ! $ move ! (1 ∷ []) $ drop ! $ move ! (0 ∷ 5 ∷ []) $ join ! $ move ! (2 ∷ 0 ∷ []) $ join ! $ move ! (1 ∷ 0 ∷ []) $ join ! $ move ! (1 ∷ []) $
    by_both (named 0) κs.0 K V ! r t (λ so.
    let w : Val = vstruct (vcons (vint w64 i) (vcons (vptr r.0.ref_ptr.0 r.0.ref_ptr.1) (vcons (vptr r.1.ref_ptr.0 r.1.ref_ptr.1) vnil))) in
    lands_as ! so refl (tt, (tt, (tt, tt))) $
    sets ! (of_opd ! (get_in ! (fld ! refl (stop !)) (sub ! 0 refl (whole !)))) refl (tt, tt) $ sets ! (of_opd ! (get_in ! (fld ! refl (stop !)) (sub ! 1 refl (whole !)))) refl (tt, tt) $
    sets ! (addr ! (through ! refl (stop !))) refl (tt, tt) $ sets ! (addr ! (through ! refl (stop !))) refl (tt, tt) $
    sets ! (agg ! (and_then ! (get ! refl) (and_then ! (get ! refl) (and_then ! (get ! refl) (no_more !))))) refl (tt, (record { fits = fits }, (tt, (tt, tt)))) $
    sets_last ! (agg ! (and_then ! (lit ! tt) (and_then ! (get ! refl) (no_more !)))) refl (tt, (record { fits = lit< tt }, ((record { fits = fits }, (tt, (tt, tt))), tt))) $
    exec ! 𝓣.C 𝓣.Λ Ev (after 5 fn.body) (at_ret Ev Post) $ sets ! (of_opd ! (get ! refl)) refl (tt, (record { fits = lit< tt }, ((record { fits = fits }, (tt, (tt, tt))), tt))) $
    use2 𝓛 (‵ (Parts.own_val (i, r.0, r.1) (w ∷ []))) (beside_index (named 0) κs.0 K V 𝓛 i fits r) $
    use1 𝓛 (‵ (Out.own_val (Some (i, r.0, r.1)) (live 1 (vcons w vnil) ∷ []))) (some_of 𝓛 Parts (i, r.0, r.1) w) $ returns ! (look_at ! 0 refl) $ free_all ! refl $
    nothing ! $ nothing ! $ fjoin ! $ nothing ! $ fjoin ! $
    use0 𝓛 (raw (fact 𝓤 (Shown (Some (i, r.0, r.1))))) (fact_i 𝓤 (Shown (Some (i, r.0, r.1))) (emp 𝓤) (sym (shown ∙ ap Some parts) ∙ ap (option_and_then (slice_get m.now.entries)) at ∙ sym (lookup_pair_by_index test m.now.entries))) $
    use0 𝓛 (raw (fact 𝓤 (Within (Some (i, r.0, r.1))))) (fact_i 𝓤 (Within (Some (i, r.0, r.1))) (emp 𝓤) here) $ join ! $
    use0 𝓛 (raw (fact 𝓤 (Place (Some (i, r.0, r.1))))) (fact_i 𝓤 (Place (Some (i, r.0, r.1))) (emp 𝓤) at) $ join ! $
    move ! (4 ∷ 0 ∷ []) $ join ! $ move ! (3 ∷ 1 ∷ 2 ∷ 0 ∷ []) $ by ! (leaves 𝓛 En hs c y (live 1 (vcons w vnil)) (Some (i, r.0, r.1)) (tt, (tt, tt)) (tt, (tt, tt))))))))))))))
    (λ none e.
    let no_index : Option ℕ = None in let at : no_index ≡ found = sym none ∙ place in
    lands_as ! (is ∙ ap (λ (ws : List Val). vstruct (of_list (ws ++ p ∷ []))) e) refl (tt, ((record { fits = lit< tt }, tt), (tt, tt))) $
    sets ! (of_opd ! (get_in ! (fld ! refl (stop !)) (sub ! 0 refl (whole !)))) refl (tt, (record { fits = lit< tt }, tt)) $
    sets ! (of_opd ! (get_in ! (fld ! refl (stop !)) (sub ! 1 refl (whole !)))) refl (tt, tt) $
    first ! $ switches_on ! (get_tag ! (vrt ! refl (fld ! refl (stop !))) (whole !)) $ exec ! 𝓣.C 𝓣.Λ Ev (arm_body 1 (head (after 4 fn.body))) (then_runs 𝓤 𝓛 𝓣.C 𝓣.Λ Ev (after 5 fn.body) (at_ret Ev Post)) $
    sets_last ! (agg ! (and_then ! (lit ! tt) (no_more !))) refl (tt, (record { fits = lit< tt }, tt)) $
    exec ! 𝓣.C 𝓣.Λ Ev (after 5 fn.body) (at_ret Ev Post) $ sets ! (of_opd ! (get ! refl)) refl (tt, (record { fits = lit< tt }, tt)) $
    fsplit3 ! $ drop ! $ name_done ! tt $ move ! (1 ∷ []) $ drop ! $
    use1 𝓛 (‵ (lends_both_beside_index K V m test None)) (stays_unlent 𝓛 K V m test) $ use0 𝓛 (‵ (Out.own_val None (live 0 vnil ∷ []))) (none_of 𝓛 Parts) $ returns ! (look_at ! 0 refl) $ free_all ! refl $
    nothing ! $ nothing ! $ fjoin ! $ nothing ! $ fjoin ! $
    use0 𝓛 (raw (fact 𝓤 (Shown None))) (fact_i 𝓤 (Shown None) (emp 𝓤) (ap (option_and_then (slice_get m.now.entries)) at ∙ sym (lookup_pair_by_index test m.now.entries))) $
    use0 𝓛 (raw (fact 𝓤 (Within None))) (fact_i 𝓤 (Within None) (emp 𝓤) tt) $ join ! $
    use0 𝓛 (raw (fact 𝓤 (Place None))) (fact_i 𝓤 (Place None) (emp 𝓤) at) $ join ! $
    move ! (3 ∷ 0 ∷ []) $ join ! $ move ! (3 ∷ 1 ∷ 2 ∷ 0 ∷ []) $ by ! (leaves 𝓛 En hs c y (live 0 vnil) None (tt, (tt, tt)) (tt, (tt, tt)))))))))))))))))
