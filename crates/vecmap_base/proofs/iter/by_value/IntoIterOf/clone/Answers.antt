use Rattle.vecmap_base.proofs.WalkLemmas.{all_zip_mapped}
use Rattle.vecmap_base.proofs.iter.by_value.IntoIterOf.clone.Goals as goal

pub returns : goal.returns
returns g c =
    let part = g.P.Projection.part in
    rw (← c.self.view_is) (all_zip_mapped g.X.Clone.is_clone g.T.Clone.is_clone part part g.met.P.ClonePart.clones _ _ c.in_ok-clone.ensures.cases.0)
