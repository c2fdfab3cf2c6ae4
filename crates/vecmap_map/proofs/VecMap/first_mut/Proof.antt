-- The idea: the call returns what `get_index_mut` at the index 0 returns.
use Rattle.vecmap_map.proofs.LentLemmas.Steps
use Steps.{refl, lit<, w64, [], ◌∷◌, a_type, named, Val, vptr, inst_fn}
use Steps.{SProp, id⊢, ftrue, ‵, raw, ◌⊛◌, some, later, ◌$◌, ◌∵◌, !, qed, by, move, keep, drop, split, join, fjoin, pick, await, use1, rewrite}
use Steps.{enter, lit, addr, stop, no_more, and_then, returns, alloc_all, pass_all, free_all, look_at, get, through, sets, lands_as, proved, leaves}
use Steps.{no, RattleType, Is, type_at, plain, RefMutOf, usize, MutBor, mut_vals, mut_Tells, MutRef, uint_vals, uint_Makes, param, layouts, nothing, heard, owned}
use Steps.{fact, ◌⊑◌, tables, calls_at, Lasts, lasts, at_exit, on_entry, alive, Vals, triple_of, framed, Stays, stay_dropped, walk_of, Goes-dropped}
use Rattle.vecmap_map.specs.contracts.VecMap.{the_row, first_mut.{ended, clauses, Key.name as #self}}
use Rattle.vecmap_map.proofs.{LentLemmas.LentParts.{beside_facts, by_ends}, VecMap.first_mut.Statement.statement}
use Rattle.vecmap_map.specs.contracts.VecMap.get_index_mut as A
use Rattle.vecmap_map.proofs.VecMap.get_index_mut.Met as A-thm
use Rattle.vecmap_map.proofs.VecMap.first_mut.Code as code

pub first_mut_spec : {M : Type 1} → statement M
first_mut_spec 𝓤 𝓛 𝓜 𝓡 wired KT VT KL VL =
    let H = 𝓛.H in let 𝓣 = tables 𝓤 H 𝓜 𝓡 𝓡.env in let K : RattleType = param 0 KT in let V : RattleType = param 1 VT in let En = ended KT VT in
    let inst = layouts (a_type ∷ a_type ∷ []) (KT, (VT, tt)) in let fn = inst_fn inst code.function in let Row : RattleType = the_row K V in let c = clauses KT VT 𝓛 𝓜.mem 𝓡.returns in
    let self = RefMutOf (0 ∷ []) tt (plain (λ _. Row)) (λ _. tt) in
    let hs : Stays En.signature.params En.kept = (stay_dropped self no, tt) in
    proved 𝓛 En hs c 𝓜 𝓡 (Goes-dropped 𝓛 3 self no (λ κs x f. refl), tt) (#self inst) fn (code.unfolded 𝓤 H 𝓜 𝓡 wired (KT, (VT, tt)))
    (λ κs. (mut_vals, tt)) (λ κs. (mut_Tells (named 0) κs.0 Row, tt)) (λ κs qs bounds a gh are.
    let S = En.signature in let m : MutBor Row.Denot = a.0 in let vs : Vals S κs = (mut_vals m, tt) in
    let y : (walk_of 𝓛 En hs c).Ghost = ((κs, qs, bounds, a, vs), gh) in let Post : Val → SProp 𝓤 = (walk_of 𝓛 En hs c).post y in
    let Out : RattleType = type_at S.result κs in
    let F : Type 0 = κs.1.0 ⊑ KT.lives in let G : Type 0 = κs.1.1.0 ⊑ VT.lives in
    let kA = triple_of 𝓛 (A.signature KT VT) (A.spec KT VT 𝓛 𝓜.mem 𝓡.returns) in
    let yA : kA.Ghost = ((κs, qs, bounds, (m, (0, tt)), (mut_vals m, (uint_vals w64 0, tt))), tt) in let toks : SProp 𝓤 = alive 𝓛 S κs qs in
    qed 𝓛 ((raw toks ⊛ (‵ ((MutRef (named 0) κs.0 Row).own_val m (mut_vals m)) ⊛ ‵ ftrue)) ∷ raw (fact 𝓤 F) ∷ raw (fact 𝓤 G) ∷ ‵ ftrue ∷ []) ∵ move ! (1 ∷ []) $ heard ! F (λ inK. move ! (1 ∷ []) $ heard ! G (λ inV. keep ! (0 ∷ []) $
    enter ! 𝓣.C 𝓣.Λ fn (vptr m.ref_ptr.0 m.ref_ptr.1 ∷ []) Post $ alloc_all ! (λ l. pass_all ! refl ((tt, tt), tt) $
    sets ! (addr ! (through ! refl (stop !))) refl (tt, tt) $
    split ! $ move ! (1 ∷ []) $ split ! $ move ! (1 ∷ []) $ drop ! $ nothing ! $ owned ! usize (Is usize) (uint_Makes 𝓛 w64) 0 (uint_vals w64 0) (refl, lit< tt) $ join ! $ move ! (1 ∷ 0 ∷ []) $ join ! $ move ! (1 ∷ 0 ∷ []) $ join ! $
    use1 𝓛 (raw (kA.pre yA)) (beside_facts 𝓤 𝓛 (on_entry 𝓛 (A.signature KT VT) κs qs (m, (0, tt)) (mut_vals m, (uint_vals w64 0, tt))) F G inK inV) $
    calls_at ! (framed 𝓤 H 𝓜 𝓣) kA (A-thm.met 𝓤 𝓛 𝓜 𝓡 (code.calls-vecmap_map::VecMap::get_index_mut 𝓡.env wired) KT VT KL VL) yA (and_then ! (get ! refl) (and_then ! (lit ! tt) (no_more !))) (λ v.
    use1 𝓛 (later (some (λ (x : Out.Denot). (raw toks ⊛ ‵ (Out.own_val x (v ∷ []))) ⊛ some (λ (ls : Lasts (A.ended KT VT) κs (m, (0, tt))). ‵ (lasts (A.ended KT VT) κs (m, (0, tt)) ls) ⊛ raw ((c κs a).ensures gh x (at_exit En κs a (tt, tt)))))))
    (id⊢ 𝓤 (kA.post yA v)) $
    await ! tt $ pick ! (λ x. split ! $ move ! (1 ∷ []) $ pick ! (λ _. split ! $ drop ! $ move ! (1 ∷ []) $ split ! $ move ! (1 ∷ []) $
    by_ends (named 0) κs.0 K V ! x v
    (λ r e. lands_as ! e refl (tt, (record { fits = lit< tt }, ((tt, (tt, tt)), tt))) $ returns ! (look_at ! 0 refl) $ free_all ! refl $ rewrite ! 0 (λ (z : Val). ‵ (Out.own_val x (z ∷ []))) e refl $
    nothing ! $ nothing ! $ fjoin ! $ move ! (2 ∷ 0 ∷ 1 ∷ 3 ∷ []) $ by ! (leaves 𝓛 En hs c y _ x (tt, tt) (tt, tt)))
    (λ e. lands_as ! e refl (tt, (record { fits = lit< tt }, tt)) $ returns ! (look_at ! 0 refl) $ free_all ! refl $ rewrite ! 0 (λ (z : Val). ‵ (Out.own_val x (z ∷ []))) e refl $
    nothing ! $ nothing ! $ fjoin ! $ move ! (2 ∷ 0 ∷ 1 ∷ 3 ∷ []) $ by ! (leaves 𝓛 En hs c y _ x (tt, tt) (tt, tt))))))))))
