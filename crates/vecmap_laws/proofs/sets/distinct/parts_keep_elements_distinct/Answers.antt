use Rattle.vecmap_base.proofs.DistinctLemmas.{distinct_drop, distinct_filter, distinct_remove_range, distinct_take}
use Rattle.vecmap_laws.proofs.DistinctKeys.{distinct_slice_range}
use Rattle.vecmap_laws.proofs.sets.distinct.parts_keep_elements_distinct.Goals as goal

pub returns : goal.returns
returns g c =
    let eq = g.T.PartialEq.eq in record {
      front = λ s d n. distinct_take eq n s d;
      back = λ s d n. distinct_drop eq n s d;
      part = λ s d i j. distinct_slice_range eq s i j d;
      without_part = λ s d i j order. distinct_remove_range eq s i j order d;
      passing = λ s d test. distinct_filter eq test s d;
    }
