use Rattle.vecmap_laws.proofs.AlgebraLemmas.{lazy_union_turned}
use Rattle.vecmap_laws.proofs.sets.algebra.algebra_is_symmetric.Goals as goal

pub returns-clause-union : goal.returns-clause-union
returns-clause-union g c = lazy_union_turned g.T.PartialEq.eq g.met.T.Eq.laws
