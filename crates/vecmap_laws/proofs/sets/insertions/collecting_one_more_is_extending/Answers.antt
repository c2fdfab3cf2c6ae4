use Rattle.std.proofs.Common.{◌∙◌, ◌++◌, ◌∷◌, [], ap, sym}
use Rattle.vecmap_base.{specs.Items.adds, proofs.DistinctLemmas.distinct_none}
use Rattle.vecmap_laws.proofs.ItemLemmas.{adds_append}
use Rattle.vecmap_set.proofs.MemberLemmas.{adds_items}
use Rattle.vecmap_laws.proofs.sets.insertions.collecting_one_more_is_extending.Goals as goal

pub returns : goal.returns
returns g c = λ xs v x w made grown.
    let eq = g.T.PartialEq.eq in
    (adds_items eq g.met.T.Eq.laws [] (xs ++ x ∷ []) w.elements (distinct_none eq) (grown.0 ∙ ap (λ l. adds eq l (x ∷ [])) made.0.elements ∙ sym (adds_append eq [] xs (x ∷ []))), grown.1)
