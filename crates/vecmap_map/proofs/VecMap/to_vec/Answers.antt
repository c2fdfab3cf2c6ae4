use Rattle.std.proofs.lemmas.Result.{MatchResult-weaker}
use Rattle.vecmap_map.proofs.VecMap.to_vec.Goals as goal

pub returns : goal.returns
returns g c = rw (← c.self.view_is) (MatchResult-weaker c.clone.result c.clone.ensures.cases (λ copy h. h.0) (λ refused h. tt))
