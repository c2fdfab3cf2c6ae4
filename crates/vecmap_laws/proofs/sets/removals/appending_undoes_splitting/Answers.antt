use Rattle.std.{specs.List.IsDistinct, proofs.{Common.{drop, take, subst, sym, ◌∙◌}, lemmas.List.take-append-drop}}
use Rattle.vecmap_base.proofs.ItemsLemmas.Additions.{adds_apart}
use Rattle.vecmap_laws.proofs.sets.removals.appending_undoes_splitting.Goals as goal

pub returns : goal.returns
returns g c = λ l d at.
    let eq = g.T.PartialEq.eq in
    adds_apart eq g.met.T.Eq.laws (take at l) (drop at l) (subst (IsDistinct eq) (sym (take-append-drop at l)) d) ∙ take-append-drop at l
