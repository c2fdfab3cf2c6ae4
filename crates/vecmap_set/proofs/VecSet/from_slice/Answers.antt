use Rattle.std.proofs.{Common.{◌+◌, ◌∷◌, [], ◌++◌, ap, arith, sym, subst, take, ◌∙◌, ◌≡◌}, lemmas.{List.take_more, Grind.common_steps}}
use Rattle.vecmap_base.{specs.{Items.add, Clones.AreClones}, proofs.CloneLemmas.{TakesClones, clone_taken}}
use Rattle.vecmap_set.proofs.MemberLemmas.{adds_clones}
use Rattle.vecmap_set.proofs.VecSet.from_slice.Goals as goal

pub loop-item-preserved : goal.loop-item-preserved
loop-item-preserved g c =
    let items = c.args.items.now in
    let i = c.loop-item.item-index in
    let x = c.item-item.result in
    let is_clone = g.T.Clone.is_clone in
    let eq = g.T.PartialEq.eq in
    let more : take i items ++ x ∷ [] ≡ take (i + 1) items = ap (λ y. take i items ++ y ∷ []) c.item-item.is ∙ sym (take_more items i x c.loop-item-test.true) in record {
      elements = subst (λ l. TakesClones is_clone (add eq) [] l c.insert.new.self.elements) more
          (clone_taken is_clone (add eq) [] (take i items) c.loop-item.set.elements c.insert.new.self.elements x c.in_ok-clone.field-0 c.loop-item.invariant.elements c.in_ok-clone.ensures.cases c.in_ok-insert.ensures.insertion.elements);
      distinct = c.in_ok-insert.ensures.insertion.distinct;
    }

pub returns : goal.returns
returns g c =
    let items = c.args.items.now in
    let made = c.loop-item.invariant.elements in
    let whole : take c.loop-item.item-index items ≡ items = grind (arith, common_steps) in
    record { insertion = adds_clones g.T.PartialEq.eq g.met.T.Eq.laws g.T.Clone.is_clone items made.0 _ (subst (λ l. AreClones g.T.Clone.is_clone l made.0) whole made.1) made.2 }
