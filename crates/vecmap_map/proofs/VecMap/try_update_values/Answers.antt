-- The vector has as many pairs as before.
use Rattle.std.{proofs.{Common.arith, lemmas.List.take_at}, specs.Prelude.{◌≡◌, drop, length}}
use Rattle.vecmap_map.proofs.VecMap.try_update_values.Goals as goal

pub returns-clause-ok : goal.returns-clause-ok
returns-clause-ok g c =
    let new = c.try_update_pairs.new.pairs in
    let long : length new ≡ c.self.inside.pairs.len = omega (arith, c.try_update_pairs.ensures.keys.len, c.deref_mut.ensures.len) in
    rw (take_at new (drop (length new) c.self.inside.pairs.items) c.self.inside.pairs.len long, ← c.self.view_is, ← c.deref_mut.ensures.value) c.try_update_pairs.ensures.ok

pub returns-clause-err : goal.returns-clause-err
returns-clause-err g c =
    let new = c.try_update_pairs.new.pairs in
    let long : length new ≡ c.self.inside.pairs.len = omega (arith, c.try_update_pairs.ensures.keys.len, c.deref_mut.ensures.len) in
    rw (take_at new (drop (length new) c.self.inside.pairs.items) c.self.inside.pairs.len long, ← c.self.view_is, ← c.deref_mut.ensures.value) c.try_update_pairs.ensures.err
