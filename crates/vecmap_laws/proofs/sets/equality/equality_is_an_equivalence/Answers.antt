use Rattle.std.proofs.Common.{◌∙◌}
use Rattle.vecmap_base.proofs.EqualityLemmas.Sets.{set_equality_laws}
use Rattle.vecmap_laws.proofs.sets.equality.equality_is_an_equivalence.Goals as goal

pub returns-clause-reflexive : goal.returns-clause-reflexive
returns-clause-reflexive g c = (set_equality_laws g.T.PartialEq.eq g.met.T.Eq.laws).refl

pub returns-clause-transitive : goal.returns-clause-transitive
returns-clause-transitive g c =
    let laws = set_equality_laws g.T.PartialEq.eq g.met.T.Eq.laws in
    λ x y z e f. laws.congr x y z e ∙ f
