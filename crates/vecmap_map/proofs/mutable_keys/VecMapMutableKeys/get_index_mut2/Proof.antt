-- The idea: `pair_at_mut` returns a reference to the pair at the index, and `parts_mut` splits it.
use Rattle.vecmap_map.proofs.LentLemmas.Steps
use Steps.{◌≡◌, ℕ, ◌↔◌, ◌<◌, refl, sym, ap, ◌∙◌, subst, lit<, w64, List, [], ◌∷◌, ◌++◌, Option, Some, None, IsSome, length, option_map, slice_get, a_type, named, Val, vptr, vstruct, vcons, vnil, of_list, inst_fn, option_copied_mut}
use Steps.{SProp, emp, id⊢, ftrue, ‵, raw, ◌⊛◌, some, later, at_ret, ◌$◌, ◌∵◌, !, qed, by, move, keep, drop, split, join, fjoin, pick, await, use0, use1, use2, rewrite}
use Steps.{live, vrt, in_variant, whole, agg, enter, of_opd, lit, addr, stop, fld, no_more, and_then, first, switches_on, exec, returns, alloc_all, pass_all, free_all, look_at, get, get_in, get_tag, through, sets, sets_last, lands_as, env, proved, leaves, after, head, arm_body}
use Steps.{yes, no, RattleType, Is, shows, type_at, plain, RefMutOf, usize, MutBor, mut_vals, mut_Tells, uint_vals, uint_Tells, param, layouts, nothing, only, peeks, heard, Tuple}
use Steps.{fact, fact_i, ◌⊑◌, tables, calls_at, Lasts, lasts, on_entry, alive, Vals, triple_of, framed, Stays, stay_dropped, walk_of, Goes-dropped}
use Rattle.vecmap_map.specs.{Lends.{lends_pair_if_at, lends_parts, lends_both_at}, contracts.VecMap.the_row}
use Rattle.vecmap_map.specs.contracts.mutable_keys.VecMapMutableKeys.get_index_mut2.{ended, clauses, Key.name as #self}
use Rattle.vecmap_map.proofs.LentLemmas.{Both.{both_then, nothing_both}, LentParts.{then_runs, beside_facts, by_cases, some_of, none_of}}
use Rattle.vecmap_map.proofs.mutable_keys.VecMapMutableKeys.get_index_mut2.Statement.{statement}
use Rattle.vecmap_map.specs.contracts.VecMap.pair_at_mut as A
use Rattle.vecmap_map.proofs.VecMap.pair_at_mut.Met as A-thm
use Rattle.vecmap_map.specs.contracts.mutable_keys.parts_mut as B
use Rattle.vecmap_map.proofs.mutable_keys.parts_mut.Met as B-thm
use Rattle.vecmap_map.proofs.mutable_keys.VecMapMutableKeys.get_index_mut2.Code as code

pub get_index_mut2_spec : {M : Type 1} → statement M
get_index_mut2_spec 𝓤 𝓛 𝓜 𝓡 wired KT VT KL VL =
    let H = 𝓛.H in let 𝓣 = tables 𝓤 H 𝓜 𝓡 𝓡.env in let K : RattleType = param 0 KT in let V : RattleType = param 1 VT in let En = ended KT VT in
    let inst = layouts (a_type ∷ a_type ∷ []) (KT, (VT, tt)) in let fn = inst_fn inst code.function in let Row : RattleType = the_row K V in let c = clauses KT VT 𝓛 𝓜.mem 𝓡.returns in
    let P : RattleType = Tuple (K ∷ V ∷ []) in
    let self = RefMutOf (0 ∷ []) tt (plain (λ _. Row)) (λ _. tt) in let place = plain (λ _. usize) in
    let hs : Stays En.signature.params En.kept = (stay_dropped self no, (stay_dropped place yes, tt)) in
    proved 𝓛 En hs c 𝓜 𝓡 (Goes-dropped 𝓛 3 self no (λ κs x f. refl), (Goes-dropped 𝓛 3 place yes (λ κs x f. refl), tt)) (#self inst) fn (code.unfolded 𝓤 H 𝓜 𝓡 wired (KT, (VT, tt)))
    (λ κs. (mut_vals, (uint_vals w64, tt))) (λ κs. (mut_Tells (named 0) κs.0 Row, (uint_Tells w64, tt))) (λ κs qs bounds a gh are.
    let S = En.signature in let m : MutBor Row.Denot = a.0 in let i : ℕ = a.1.0 in let vs : Vals S κs = (mut_vals m, (uint_vals w64 i, tt)) in
    let y : (walk_of 𝓛 En hs c).Ghost = ((κs, qs, bounds, a, vs), gh) in let Post : Val → SProp 𝓤 = (walk_of 𝓛 En hs c).post y in
    let Out : RattleType = type_at S.result κs in
    let F : Type 0 = κs.1.0 ⊑ KT.lives in let G : Type 0 = κs.1.1.0 ⊑ VT.lives in
    let kA = triple_of 𝓛 (A.signature KT VT) (A.spec KT VT 𝓛 𝓜.mem 𝓡.returns) in
    let kB = triple_of 𝓛 (B.signature KT VT) (B.spec KT VT 𝓛 𝓜.mem 𝓡.returns) in
    let yA : kA.Ghost = ((κs, qs, bounds, a, vs), tt) in let toks : SProp 𝓤 = alive 𝓛 S κs qs in
    let Found : Option (MutBor K.Denot × MutBor V.Denot) → Type 0 = λ x. IsSome x ↔ i < length m.now.entries in
    let Shown : Option (MutBor K.Denot × MutBor V.Denot) → Type 0 = λ x. option_map (λ u. (u.0.now, u.1.now)) x ≡ slice_get m.now.entries i in
    let Parts : RattleType = type_at (B.signature KT VT).result κs in let OptP : RattleType = type_at (A.signature KT VT).result κs in
    qed 𝓛 (raw (on_entry 𝓛 S κs qs a vs) ∷ raw (fact 𝓤 F) ∷ raw (fact 𝓤 G) ∷ ‵ ftrue ∷ []) ∵ move ! (1 ∷ []) $ heard ! F (λ inK. move ! (1 ∷ []) $ heard ! G (λ inV. keep ! (0 ∷ []) $
    enter ! 𝓣.C 𝓣.Λ fn (vptr m.ref_ptr.0 m.ref_ptr.1 ∷ uint_vals w64 i) Post $ alloc_all ! (λ l. pass_all ! refl ((tt, tt), ((tt, record { fits = are.1.0.1 }), tt)) $
    let Ev = env fn.locals l in
    sets ! (addr ! (through ! refl (stop !))) refl (tt, tt) $
    use1 𝓛 (raw (kA.pre yA)) (beside_facts 𝓤 𝓛 (on_entry 𝓛 S κs qs a vs) F G inK inV) $
    calls_at ! (framed 𝓤 H 𝓜 𝓣) kA (A-thm.met 𝓤 𝓛 𝓜 𝓡 (code.calls-vecmap_map::VecMap::pair_at_mut 𝓡.env wired) KT VT KL VL) yA (and_then ! (get ! refl) (and_then ! (get ! refl) (no_more !))) (λ v.
    use1 𝓛 (later (some (λ (x : OptP.Denot). (raw toks ⊛ ‵ (OptP.own_val x (v ∷ [])))
    ⊛ some (λ (ls : Lasts (A.ended KT VT) κs a). ‵ (lasts (A.ended KT VT) κs a ls)
    ⊛ (‵ (lends_pair_if_at K V m i x) ⊛ (raw (fact 𝓤 (option_copied_mut x ≡ slice_get m.now.entries i)) ⊛ raw (fact 𝓤 (IsSome x ↔ i < length m.now.entries))))))))
    (id⊢ 𝓤 (kA.post yA v)) $
    await ! tt $ pick ! (λ x. split ! $ move ! (1 ∷ []) $ pick ! (λ _. split ! $ drop ! $ split ! $ move ! (1 ∷ []) $ split ! $ heard ! _ (λ there. heard ! _ (λ found. move ! (1 ∷ []) $ split ! $ move ! (1 ∷ 2 ∷ []) $
    -- [the pair's reference, if any; what the map then is; the tokens]
    by_cases (named 0) κs.0 P ! (lends_pair_if_at K V m i) x v
    (λ p is e.
    let at : slice_get m.now.entries i ≡ Some p.now = sym (subst (λ (z : Option (MutBor P.Denot)). option_copied_mut z ≡ slice_get m.now.entries i) is there) in
    let at_some : IsSome (Some p) ↔ i < length m.now.entries = subst (λ (z : Option (MutBor P.Denot)). IsSome z ↔ i < length m.now.entries) is found in
    let yB : kB.Ghost = ((κs, qs, bounds, (p, tt), (mut_vals p, tt)), tt) in
    lands_as ! e refl (tt, (record { fits = lit< tt }, (tt, tt))) $
    first ! $ switches_on ! (get_tag ! (vrt ! refl (fld ! refl (stop !))) (whole !)) $ exec ! 𝓣.C 𝓣.Λ Ev (arm_body 0 (head (after 2 fn.body))) (then_runs 𝓤 𝓛 𝓣.C 𝓣.Λ Ev (after 3 fn.body) (at_ret Ev Post)) $
    sets ! (of_opd ! (get_in ! (vrt ! refl (fld ! refl (stop !))) (in_variant ! 1 0 refl refl (whole !)))) refl (tt, tt) $
    sets ! (addr ! (through ! refl (stop !))) refl (tt, tt) $
    nothing ! $ move ! (1 ∷ 0 ∷ []) $ join ! $ move ! (2 ∷ 0 ∷ []) $ join ! $
    use1 𝓛 (raw (kB.pre yB)) (beside_facts 𝓤 𝓛 (on_entry 𝓛 (B.signature KT VT) κs qs (p, tt) (mut_vals p, tt)) F G inK inV) $
    calls_at ! (framed 𝓤 H 𝓜 𝓣) kB (B-thm.met 𝓤 𝓛 𝓜 𝓡 (code.calls-vecmap_map::mutable_keys::parts_mut 𝓡.env wired) KT VT KL VL) yB (and_then ! (get ! refl) (no_more !)) (λ u.
    use1 𝓛 (later (some (λ (r : Parts.Denot). (raw toks ⊛ ‵ (Parts.own_val r (u ∷ []))) ⊛ some (λ (ls : Lasts (B.ended KT VT) κs (p, tt)). ‵ (lasts (B.ended KT VT) κs (p, tt) ls) ⊛ (‵ (lends_parts K V p r) ⊛ raw (fact 𝓤 (p.now ≡ (r.0.now, r.1.now))))))))
    (id⊢ 𝓤 (kB.post yB u)) $
    await ! tt $ pick ! (λ r. split ! $ move ! (1 ∷ []) $ pick ! (λ _. split ! $ drop ! $ split ! $ move ! (1 ∷ []) $ heard ! _ (λ parts. move ! (2 ∷ 0 ∷ []) $
    use2 𝓛 (‵ (lends_both_at K V m i (Some r))) (both_then 𝓛 K V m i p r) $ move ! (1 ∷ []) $ split ! $ move ! (1 ∷ []) $
    peeks ! Parts (Is Parts) (shows 𝓛 Parts) r (u ∷ []) (λ told.
    let w : Val = vstruct (vcons (vptr r.0.ref_ptr.0 r.0.ref_ptr.1) (vcons (vptr r.1.ref_ptr.0 r.1.ref_ptr.1) vnil)) in
    let so : u ≡ w = ap only told.1.0 ∙ ap (λ (z : List Val × List Val). vstruct (of_list (z.0 ++ (z.1 ++ [])))) (λ j. (told.1.1.0.0 j, told.1.1.1.0.0 j)) in
    lands_as ! so refl (tt, (tt, (tt, tt))) $ rewrite ! 0 (λ (z : Val). ‵ (Parts.own_val r (z ∷ []))) so refl $
    sets_last ! (agg ! (and_then ! (lit ! tt) (and_then ! (get ! refl) (no_more !)))) refl (tt, (record { fits = lit< tt }, ((tt, (tt, tt)), tt))) $
    exec ! 𝓣.C 𝓣.Λ Ev (after 3 fn.body) (at_ret Ev Post) $ sets ! (of_opd ! (get ! refl)) refl (tt, (record { fits = lit< tt }, ((tt, (tt, tt)), tt))) $
    use1 𝓛 (‵ (Out.own_val (Some r) (live 1 (vcons w vnil) ∷ []))) (some_of 𝓛 Parts r w) $ returns ! (look_at ! 0 refl) $ free_all ! refl $
    nothing ! $ nothing ! $ fjoin ! $ nothing ! $ fjoin ! $ use0 𝓛 (raw (fact 𝓤 (Found (Some r)))) (fact_i 𝓤 (Found (Some r)) (emp 𝓤) at_some) $ use0 𝓛 (raw (fact 𝓤 (Shown (Some r)))) (fact_i 𝓤 (Shown (Some r)) (emp 𝓤) (sym (at ∙ ap Some parts))) $ join ! $
    move ! (4 ∷ 0 ∷ []) $ join ! $ move ! (3 ∷ 1 ∷ 2 ∷ 0 ∷ []) $ by ! (leaves 𝓛 En hs c y (live 1 (vcons w vnil)) (Some r) (tt, (tt, tt)) (tt, (tt, tt)))))))))
    (λ is e.
    let none : Option (MutBor P.Denot) = None in let at_none : IsSome none ↔ i < length m.now.entries = subst (λ (z : Option (MutBor P.Denot)). IsSome z ↔ i < length m.now.entries) is found in
    let shown_none : Shown None = subst (λ (z : Option (MutBor P.Denot)). option_copied_mut z ≡ slice_get m.now.entries i) is there in
    lands_as ! e refl (tt, (record { fits = lit< tt }, tt)) $
    first ! $ switches_on ! (get_tag ! (vrt ! refl (fld ! refl (stop !))) (whole !)) $ exec ! 𝓣.C 𝓣.Λ Ev (arm_body 1 (head (after 2 fn.body))) (then_runs 𝓤 𝓛 𝓣.C 𝓣.Λ Ev (after 3 fn.body) (at_ret Ev Post)) $
    sets_last ! (agg ! (and_then ! (lit ! tt) (no_more !))) refl (tt, (record { fits = lit< tt }, tt)) $
    exec ! 𝓣.C 𝓣.Λ Ev (after 3 fn.body) (at_ret Ev Post) $ sets ! (of_opd ! (get ! refl)) refl (tt, (record { fits = lit< tt }, tt)) $
    use1 𝓛 (‵ (lends_both_at K V m i None)) (nothing_both 𝓛 K V m i) $ use0 𝓛 (‵ (Out.own_val None (live 0 vnil ∷ []))) (none_of 𝓛 Parts) $ returns ! (look_at ! 0 refl) $ free_all ! refl $
    nothing ! $ nothing ! $ fjoin ! $ nothing ! $ fjoin ! $ use0 𝓛 (raw (fact 𝓤 (Found None))) (fact_i 𝓤 (Found None) (emp 𝓤) at_none) $ use0 𝓛 (raw (fact 𝓤 (Shown None))) (fact_i 𝓤 (Shown None) (emp 𝓤) shown_none) $ join ! $
    move ! (3 ∷ 0 ∷ []) $ join ! $ move ! (3 ∷ 1 ∷ 2 ∷ 0 ∷ []) $ by ! (leaves 𝓛 En hs c y (live 0 vnil) None (tt, (tt, tt)) (tt, (tt, tt)))))))))))))
