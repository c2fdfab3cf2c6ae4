use Rattle.std.proofs.Common.{◌∙◌}
use Rattle.vecmap_base.proofs.EqualityLemmas.Maps.{map_equality_laws}
use Rattle.vecmap_laws.proofs.maps.equality.equality_is_an_equivalence.Goals as goal

pub returns-clause-reflexive : goal.returns-clause-reflexive
returns-clause-reflexive g c = (map_equality_laws g.K.PartialEq.eq g.V.PartialEq.eq g.met.K.Eq.laws g.met.V.Eq.laws).refl

pub returns-clause-transitive : goal.returns-clause-transitive
returns-clause-transitive g c =
    let laws = map_equality_laws g.K.PartialEq.eq g.V.PartialEq.eq g.met.K.Eq.laws g.met.V.Eq.laws in
    λ l m n e f. laws.congr l m n e ∙ f
