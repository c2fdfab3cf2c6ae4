use Rattle.std.proofs.{Common.{◌+◌, ◌∷◌, [], ◌++◌, ap, arith, sym, subst, take, ◌∙◌, ◌≡◌}, lemmas.List.{take_all, take_more}}
use Rattle.vecmap_base.{specs.{Clones.{AreClones, IsPairClone}, Pairs.put}, proofs.CloneLemmas.{TakesClones, clone_taken}}
use Rattle.vecmap_map.proofs.ContentsLemmas.{makes_clones}
use Rattle.vecmap_map.proofs.VecMap.from_slice.Goals as goal

pub loop-pair-preserved : goal.loop-pair-preserved
loop-pair-preserved g c =
    let pairs = c.args.pairs.now in
    let i = c.loop-pair.pair-index in
    let p = c.pair-item.result in
    let one = c.in_ok-put_clones.ensures.list in
    let is_clone = IsPairClone g.K.Clone.is_clone g.V.Clone.is_clone in
    let more : take i pairs ++ p ∷ [] ≡ take (i + 1) pairs = ap (λ q. take i pairs ++ q ∷ []) c.pair-item.is ∙ sym (take_more pairs i p c.loop-pair-test.true) in
    record {
      puts = subst (λ l. TakesClones is_clone (λ done r. put g.K.PartialEq.eq done r.0 r.1) [] l c.put_clones.new.self.entries) more
          (clone_taken is_clone (λ done r. put g.K.PartialEq.eq done r.0 r.1) [] (take i pairs) c.loop-pair.map.entries c.put_clones.new.self.entries p (one.0, one.1) c.loop-pair.invariant.puts (one.2, one.3) one.4);
      room = omega (arith, c.put_clones.ensures.capacity.capacity, c.loop-pair.invariant.room);
    }

pub returns : goal.returns
returns g c =
    let clones = c.loop-pair.invariant.puts in
    let is_clone = IsPairClone g.K.Clone.is_clone g.V.Clone.is_clone in
    let whole = take_all c.loop-pair.pair-index c.args.pairs.now c.loop-pair-test.false in
    record { insertion = makes_clones g.K.PartialEq.eq g.met.K.Eq.laws g.K.Clone.is_clone g.V.Clone.is_clone c.args.pairs.now _ clones.0 (subst (λ l. AreClones is_clone l clones.0) whole clones.1) clones.2 c.loop-pair.invariant.room }
