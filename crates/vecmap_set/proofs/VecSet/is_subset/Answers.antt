use Rattle.std.proofs.Common.{◌∙◌, rules}
use Rattle.vecmap_base.proofs.EqualityLemmas.Sets.{longer_not_within, test_from_within}
use Rattle.vecmap_set.proofs.VecSet.is_subset.Goals as goal

pub returns-then-items-others-clause-value : goal.returns-then-items-others-clause-value
returns-then-items-others-clause-value g c = search (rules, longer_not_within)

pub returns-then-items-others-clause-holds : goal.returns-then-items-others-clause-holds
returns-then-items-others-clause-holds g c within =
    returns-then-items-others-clause-value g c ∙ test_from_within g.T.PartialEq.eq g.met.T.Eq.laws c.args.self.now.elements c.args.other.now.elements within
