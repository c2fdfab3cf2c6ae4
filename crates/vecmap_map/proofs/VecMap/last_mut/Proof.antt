-- The idea: the call returns what `get_index_mut` at the last index returns.
use Rattle.vecmap_map.proofs.LentLemmas.Steps
use Steps.{◌≡◌, ℕ, ◌↔◌, ◌<◌, refl, ap, ◌∙◌, lit<, w64, List, [], ◌∷◌, ◌++◌, IsSome, length, option_map, slice_get, ◌-◌, arith, a_type, named, Val, vptr, vstruct, of_list, inst_fn}
use Steps.{SProp, emp, id⊢, ftrue, ‵, raw, ◌⊛◌, some, later, ◌$◌, ◌∵◌, !, qed, by, move, keep, drop, split, join, fjoin, pick, await, use0, use1, rewrite}
use Steps.{whole, sub, enter, of_opd, addr, stop, fld, no_more, and_then, returns, alloc_all, pass_all, free_all, look_at, get, get_in, through, sets, lands_as, proved, leaves}
use Steps.{no, RattleType, Is, shows, type_at, plain, RefMutOf, usize, MutBor, mut_vals, mut_Tells, uint_vals, param, layouts, nothing, peeks, heard}
use Steps.{fact, fact_i, ◌⊑◌, tables, calls_at, Lasts, lasts, on_entry, alive, Vals, triple_of, framed, Stays, stay_dropped, walk_of, Goes-dropped}
use Rattle.vecmap_map.specs.{Lends.lends_beside_key, contracts.VecMap.{the_row, last_mut.{ended, clauses, Key.name as #self}}}
use Rattle.vecmap_map.proofs.{LentLemmas.LentParts.{beside_facts, by_ends, by_parts}, VecMap.last_mut.Statement.statement}
use Rattle.vecmap_map.specs.contracts.VecMap.get_index_mut as A
use Rattle.vecmap_map.proofs.VecMap.get_index_mut.Met as A-thm
use Rattle.vecmap_map.specs.contracts.VecMap.last_index_and_map as W
use Rattle.vecmap_map.proofs.VecMap.last_index_and_map.Met as W-thm
use Rattle.vecmap_map.proofs.VecMap.last_mut.Code as code

-- The last index is in range exactly if there is a pair.
last_is : (n : ℕ) (P : Type 0) → (P ↔ n - 1 < n) → (P ↔ 0 < n)
last_is n P found = (λ p. omega (arith, found.0 p), λ some. found.1 (omega (arith, some)))

pub last_mut_spec : {M : Type 1} → statement M
last_mut_spec 𝓤 𝓛 𝓜 𝓡 wired KT VT KL VL =
    let H = 𝓛.H in let 𝓣 = tables 𝓤 H 𝓜 𝓡 𝓡.env in let K : RattleType = param 0 KT in let V : RattleType = param 1 VT in let En = ended KT VT in
    let inst = layouts (a_type ∷ a_type ∷ []) (KT, (VT, tt)) in let fn = inst_fn inst code.function in let Row : RattleType = the_row K V in let c = clauses KT VT 𝓛 𝓜.mem 𝓡.returns in
    let self = RefMutOf (0 ∷ []) tt (plain (λ _. Row)) (λ _. tt) in
    let hs : Stays En.signature.params En.kept = (stay_dropped self no, tt) in
    proved 𝓛 En hs c 𝓜 𝓡 (Goes-dropped 𝓛 3 self no (λ κs x f. refl), tt) (#self inst) fn (code.unfolded 𝓤 H 𝓜 𝓡 wired (KT, (VT, tt)))
    (λ κs. (mut_vals, tt)) (λ κs. (mut_Tells (named 0) κs.0 Row, tt)) (λ κs qs bounds a gh are.
    let S = En.signature in let m : MutBor Row.Denot = a.0 in let vs : Vals S κs = (mut_vals m, tt) in
    let y : (walk_of 𝓛 En hs c).Ghost = ((κs, qs, bounds, a, vs), gh) in let Post : Val → SProp 𝓤 = (walk_of 𝓛 En hs c).post y in
    let Out : RattleType = type_at S.result κs in
    let F : Type 0 = κs.1.0 ⊑ KT.lives in let G : Type 0 = κs.1.1.0 ⊑ VT.lives in
    let kW = triple_of 𝓛 (W.signature KT VT) (W.spec KT VT 𝓛 𝓜.mem 𝓡.returns) in
    let kA = triple_of 𝓛 (A.signature KT VT) (A.spec KT VT 𝓛 𝓜.mem 𝓡.returns) in
    let yW : kW.Ghost = ((κs, qs, bounds, a, vs), tt) in let toks : SProp 𝓤 = alive 𝓛 S κs qs in
    let i : ℕ = length m.now.entries - 1 in let Both : RattleType = type_at (W.signature KT VT).result κs in
    let Shown : Out.Denot → SProp 𝓤 = λ r. fact 𝓤 (option_map (λ p. (p.0.now, p.1.now)) r ≡ slice_get m.now.entries i) in
    let Found : Out.Denot → SProp 𝓤 = λ r. fact 𝓤 (IsSome r ↔ 0 < length m.now.entries) in
    qed 𝓛 (raw (on_entry 𝓛 S κs qs a vs) ∷ raw (fact 𝓤 F) ∷ raw (fact 𝓤 G) ∷ ‵ ftrue ∷ []) ∵ move ! (1 ∷ []) $ heard ! F (λ inK. move ! (1 ∷ []) $ heard ! G (λ inV. keep ! (0 ∷ []) $
    enter ! 𝓣.C 𝓣.Λ fn (vptr m.ref_ptr.0 m.ref_ptr.1 ∷ []) Post $ alloc_all ! (λ l. pass_all ! refl ((tt, tt), tt) $
    sets ! (addr ! (through ! refl (stop !))) refl (tt, tt) $
    use1 𝓛 (raw (kW.pre yW)) (beside_facts 𝓤 𝓛 (on_entry 𝓛 S κs qs a vs) F G inK inV) $
    calls_at ! (framed 𝓤 H 𝓜 𝓣) kW (W-thm.met 𝓤 𝓛 𝓜 𝓡 (code.calls-vecmap_map::VecMap::last_index_and_map 𝓡.env wired) KT VT KL VL) yW (and_then ! (get ! refl) (no_more !)) (λ v.
    use1 𝓛 (later (some (λ (x : Both.Denot). (raw toks ⊛ ‵ (Both.own_val x (v ∷ []))) ⊛ some (λ (ls : Lasts (W.ended KT VT) κs a). ‵ (lasts (W.ended KT VT) κs a ls) ⊛ (raw (fact 𝓤 (x.0 ≡ i)) ⊛ (raw (fact 𝓤 (x.1.ghost_name ≡ m.ghost_name)) ⊛ raw (fact 𝓤 (x.1.now ≡ m.now))))))))
    (id⊢ 𝓤 (kW.post yW v)) $
    await ! tt $ pick ! (λ x. split ! $ move ! (1 ∷ []) $ pick ! (λ _. split ! $ drop ! $ split ! $ heard ! _ (λ place. split ! $ heard ! _ (λ name. heard ! _ (λ same. split ! $ move ! (1 ∷ []) $
    -- [the index and the map; the tokens]
    by_parts (named 0) κs.0 usize Row ! x v m name same (λ us is. rewrite ! 0 (λ (j : ℕ). ‵ (usize.own_val j us)) place refl $ peeks ! usize (Is usize) (shows 𝓛 usize) i us (λ at.
    let map : MutBor Row.Denot = record m { ref_ptr = x.1.ref_ptr } in let p : Val = vptr x.1.ref_ptr.0 x.1.ref_ptr.1 in
    let yA : kA.Ghost = ((κs, qs, bounds, (map, (i, tt)), (mut_vals map, (uint_vals w64 i, tt))), tt) in
    lands_as ! (is ∙ ap (λ (ws : List Val). vstruct (of_list (ws ++ p ∷ []))) at.0) refl (tt, (record { fits = at.1 }, (tt, tt))) $
    sets ! (of_opd ! (get_in ! (fld ! refl (stop !)) (sub ! 0 refl (whole !)))) refl (tt, record { fits = at.1 }) $
    sets ! (of_opd ! (get_in ! (fld ! refl (stop !)) (sub ! 1 refl (whole !)))) refl (tt, tt) $
    sets ! (addr ! (through ! refl (stop !))) refl (tt, tt) $
    rewrite ! 0 (λ (ws : List Val). ‵ (usize.own_val i ws)) at.0 refl $
    nothing ! $ move ! (1 ∷ 0 ∷ []) $ join ! $ move ! (1 ∷ 0 ∷ []) $ join ! $ move ! (1 ∷ 0 ∷ []) $ join ! $
    use1 𝓛 (raw (kA.pre yA)) (beside_facts 𝓤 𝓛 (on_entry 𝓛 (A.signature KT VT) κs qs (map, (i, tt)) (mut_vals map, (uint_vals w64 i, tt))) F G inK inV) $
    calls_at ! (framed 𝓤 H 𝓜 𝓣) kA (A-thm.met 𝓤 𝓛 𝓜 𝓡 (code.calls-vecmap_map::VecMap::get_index_mut 𝓡.env wired) KT VT KL VL) yA (and_then ! (get ! refl) (and_then ! (get ! refl) (no_more !))) (λ u.
    use1 𝓛 (later (some (λ (r : Out.Denot). (raw toks ⊛ ‵ (Out.own_val r (u ∷ []))) ⊛ some (λ (ls : Lasts (A.ended KT VT) κs (map, (i, tt))). ‵ (lasts (A.ended KT VT) κs (map, (i, tt)) ls) ⊛ (‵ (lends_beside_key K V m i r) ⊛ (raw (Shown r) ⊛ raw (fact 𝓤 (IsSome r ↔ i < length m.now.entries))))))))
    (id⊢ 𝓤 (kA.post yA u)) $
    await ! tt $ pick ! (λ r. split ! $ move ! (1 ∷ []) $ pick ! (λ _. split ! $ drop ! $ split ! $ move ! (1 ∷ []) $ split ! $ move ! (1 ∷ []) $ heard ! _ (λ found.
    use0 𝓛 (raw (Found r)) (fact_i 𝓤 (IsSome r ↔ 0 < length m.now.entries) (emp 𝓤) (last_is (length m.now.entries) (IsSome r) found)) $ move ! (1 ∷ 0 ∷ []) $ join ! $ move ! (1 ∷ 0 ∷ []) $ join ! $ move ! (1 ∷ []) $ split ! $ move ! (1 ∷ []) $
    by_ends (named 0) κs.0 K V ! r u
    (λ _ e. lands_as ! e refl (tt, (record { fits = lit< tt }, ((tt, (tt, tt)), tt))) $ returns ! (look_at ! 0 refl) $ free_all ! refl $ rewrite ! 0 (λ (z : Val). ‵ (Out.own_val r (z ∷ []))) e refl $
    nothing ! $ nothing ! $ fjoin ! $ move ! (2 ∷ 0 ∷ 1 ∷ 3 ∷ []) $ by ! (leaves 𝓛 En hs c y _ r (tt, tt) (tt, tt)))
    (λ e. lands_as ! e refl (tt, (record { fits = lit< tt }, tt)) $ returns ! (look_at ! 0 refl) $ free_all ! refl $ rewrite ! 0 (λ (z : Val). ‵ (Out.own_val r (z ∷ []))) e refl $
    nothing ! $ nothing ! $ fjoin ! $ move ! (2 ∷ 0 ∷ 1 ∷ 3 ∷ []) $ by ! (leaves 𝓛 En hs c y _ r (tt, tt) (tt, tt)))))))))))))))))))
