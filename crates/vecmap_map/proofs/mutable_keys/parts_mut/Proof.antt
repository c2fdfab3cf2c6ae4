-- The idea: the `&mut` to the pair is split into a `&mut` to each part. The clause `writes_back` is worth a proof by
-- hand: what `get_index_mut2` and `get_full_mut2` write back follows from it.
use Rattle.vecmap_map.proofs.LentLemmas.Steps
use Steps.{◌≡◌, refl, [], ◌∷◌, a_type, named, Val, vptr, inst_fn}
use Steps.{SProp, emp, id⊢, ex, ftrue, flft, fsep, GName, ‵, raw, ◌⊛◌, some, later, ◌$◌, ◌∵◌, !, qed, by, move, keep, split, join, fjoin, pick, await, use0, use1, use2, split3}
use Steps.{agg, enter, addr, stop, fld, no_more, and_then, returns, alloc_all, pass_all, free_all, look_at, get, through, sets, proved, leaves}
use Steps.{no, RattleType, plain, RefMutOf, MutBor, mut_vals, mut_Tells, MutRef, param, layouts, nothing}
use Steps.{fact, fact_i, tables, Vals, Stays, stay_dropped, walk_of, Goes-dropped}
use Rattle.vecmap_map.proofs.{LentLemmas.Both.{P, Both, parts_of, both_val, cuts, Cut}, mutable_keys.parts_mut.Statement.statement}
use Rattle.vecmap_map.specs.{Lends.lends_parts, contracts.mutable_keys.parts_mut.{ended, clauses}}
use Rattle.vecmap_map.specs.contracts.mutable_keys.parts_mut.Key.{name as #self}
use Rattle.vecmap_map.proofs.mutable_keys.parts_mut.Code as code

pub parts_mut_spec : {M : Type 1} → statement M
parts_mut_spec 𝓤 𝓛 𝓜 𝓡 wired KT VT KL VL =
    let H = 𝓛.H in let 𝓣 = tables 𝓤 H 𝓜 𝓡 𝓡.env in let K : RattleType = param 0 KT in let V : RattleType = param 1 VT in let En = ended KT VT in
    let inst = layouts (a_type ∷ a_type ∷ []) (KT, (VT, tt)) in let fn = inst_fn inst code.function in let Row : RattleType = P KT VT in let c = clauses KT VT 𝓛 𝓜.mem 𝓡.returns in
    let self = RefMutOf (0 ∷ []) tt (plain (λ _. Row)) (λ _. tt) in
    let hs : Stays En.signature.params En.kept = (stay_dropped self no, tt) in
    proved 𝓛 En hs c 𝓜 𝓡 (Goes-dropped 𝓛 3 self no (λ κs x f. refl), tt) (#self inst) fn (code.unfolded 𝓤 H 𝓜 𝓡 wired (KT, (VT, tt)))
    (λ κs. (mut_vals, tt)) (λ κs. (mut_Tells (named 0) κs.0 Row, tt)) (λ κs qs bounds a gh are.
    let S = En.signature in let p : MutBor Row.Denot = a.0 in let vs : Vals S κs = (mut_vals p, tt) in let κ = κs.0 in let q = qs.0 in
    let y : (walk_of 𝓛 En hs c).Ghost = ((κs, qs, bounds, a, vs), gh) in let Post : Val → SProp 𝓤 = (walk_of 𝓛 En hs c).post y in
    let others = fsep (flft κs.1.0 qs.1.0) (fsep (flft κs.1.1.0 qs.1.1.0) ftrue) in let Same : Type 0 = p.now ≡ p.now in
    qed 𝓛 (((‵ (flft κ q) ⊛ ‵ others) ⊛ (‵ ((MutRef (named 0) κ Row).own_val p (mut_vals p)) ⊛ ‵ ftrue)) ∷ raw ((c κs a).requires gh) ∷ []) ∵ split ! $ split ! $ move ! (2 ∷ []) $ split ! $ keep ! (0 ∷ 2 ∷ 3 ∷ []) $
    enter ! 𝓣.C 𝓣.Λ fn (vptr p.ref_ptr.0 p.ref_ptr.1 ∷ []) Post $ alloc_all ! (λ l. pass_all ! refl ((tt, tt), tt) $
    sets ! (addr ! (through ! refl (fld ! refl (stop !)))) refl (tt, tt) $ sets ! (addr ! (through ! refl (fld ! refl (stop !)))) refl (tt, tt) $
    sets ! (agg ! (and_then ! (get ! refl) (and_then ! (get ! refl) (no_more !)))) refl (tt, (tt, (tt, tt))) $
    use2 𝓛 (later (raw (ex 𝓤 (Cut 𝓛 KT VT KL VL (named 0) κ q p)))) (cuts 𝓛 KT VT KL VL (named 0) κ q p) $ await ! tt $
    use1 𝓛 (some (λ (γs : GName × GName). ‵ ((Both KT VT (named 0) κ).own_val (parts_of KT VT (named 0) κ p γs) (both_val KT VT (named 0) κ p ∷ [])) ⊛ ‵ (flft κ q) ⊛ ‵ (lends_parts K V p (parts_of KT VT (named 0) κ p γs)))) (id⊢ 𝓤 _) $
    pick ! (λ γs. split3 ! $ returns ! (look_at ! 0 refl) $ free_all ! refl $
    -- [the two references; the token; what the pair then is; the other tokens]
    use0 𝓛 (raw (fact 𝓤 Same)) (fact_i 𝓤 Same (emp 𝓤) refl) $ move ! (3 ∷ 0 ∷ []) $ join ! $ move ! (2 ∷ 3 ∷ []) $ join ! $ nothing ! $ nothing ! $ fjoin ! $ move ! (1 ∷ 0 ∷ 3 ∷ 2 ∷ []) $
    by ! (leaves 𝓛 En hs c y (both_val KT VT (named 0) κ p) (parts_of KT VT (named 0) κ p γs) (tt, tt) (tt, tt)))))
