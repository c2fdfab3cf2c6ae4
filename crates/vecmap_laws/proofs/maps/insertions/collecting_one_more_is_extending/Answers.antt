use Rattle.std.proofs.Common.{◌∙◌, ◌++◌, ◌∷◌, [], ap, sym}
use Rattle.vecmap_base.{specs.Pairs.puts, proofs.PairsLemmas.ManyPairs.makes_pairs}
use Rattle.vecmap_laws.proofs.PutLemmas.{puts_append}
use Rattle.vecmap_laws.proofs.maps.insertions.collecting_one_more_is_extending.Goals as goal

pub returns : goal.returns
returns g c = λ xs v x w made grown.
    let eq = g.K.PartialEq.eq in
    makes_pairs eq g.met.K.Eq.laws (xs ++ x ∷ []) w.entries (grown.0 ∙ ap (λ l. puts eq l (x ∷ [])) made.entries ∙ sym (puts_append eq [] xs (x ∷ [])))
