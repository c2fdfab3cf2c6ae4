use Rattle.std.proofs.{Common.{◌≡◌, ◌+◌, ◌<◌, ◌∷◌, [], ◌++◌, ap, arith, length, subst, sym, take, true, ◌∙◌}, lemmas.List.take_more}
use Rattle.std.{proofs.lemmas.List.Elements.all_zip_more, specs.List.AllZip}
use Rattle.vecmap_base.specs.Equality.{same_pair}
use Rattle.vecmap_base.proofs.equality.equal_front.Goals as goal

pub loop-i-preserved : goal.loop-i-preserved
loop-i-preserved g c =
    let a = c.args.a.now in
    let b = c.args.b.now in
    let i = c.loop-i.i in
    let p = c.index-a-i.result in
    let q = c.index-b-i.result in
    let within : i < length b = omega arith in
    let more : take i b ++ q ∷ [] ≡ take (i + 1) b = ap (λ r. take i b ++ r ∷ []) c.index-b-i.is ∙ sym (take_more b i q within) in
    subst (AllZip (λ p q. same_pair g.K.PartialEq.eq g.V.PartialEq.eq p q ≡ true) (take (i + 1) a)) more
    (all_zip_more (λ p q. same_pair g.K.PartialEq.eq g.V.PartialEq.eq p q ≡ true) a (take i b) i p q c.loop-i-test.true c.index-a-i.is c.loop-i.invariant (sym c.is_same.ensures ∙ c.if-not-is_same.false))
