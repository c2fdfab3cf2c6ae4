-- The loop keeps `KeptSoFar`: the front has the kept items, as they were written. Each call extends it by one item.
use Rattle.std.{specs.Prelude.{◌≡◌, ◌<◌, length}, proofs.{Common.{arith, get_or, ◌∙◌}, lemmas.List.length-set}}
use Rattle.vecmap_base.proofs.{KeptLemmas.{callable_here, kept_not, kept_one}, retain.retain.Goals.{else-keeps, then-keeps}}
use Rattle.vecmap_base.proofs.retain.retain.Goals as goal

pub keeps-requires : goal.keeps-requires
keeps-requires g c =
    let so_far = c.loop-i.invariant.kept in
    let p = c.index_mut.result.now in
    let l : c.loop-i.i < length c.args.items.now.items = omega (arith, c.loop-i-test.true, c.len-i-end.ensures, c.args.items.now.ok.0) in
    callable_here g.A.Predicate.step c.args.asked c.loop-i.asked c.loop-i.asked _ _ c.loop-i.kept c.loop-i.i p p so_far l c.index_mut.ensures.value g.A.Predicate.accepts c.requires.callable

pub loop-i-preserved : goal.loop-i-preserved
loop-i-preserved g c =
    let R = g.A.Predicate.step in
    let xs = c.args.items.now.items in
    let ys = c.loop-i.items.items in
    let i = c.loop-i.i in
    let k = c.loop-i.kept in
    let so_far = c.loop-i.invariant.kept in
    let p = c.index_mut.result.now in
    let y = c.keeps.new.item in
    let f = c.loop-i.asked in
    let h = c.keeps.new.self in
    let at : p ≡ get_or ys i p = c.index_mut.ensures.value in
    let l : i < length xs = omega (arith, c.loop-i-test.true, c.len-i-end.ensures, c.args.items.now.ok.0) in
    elim c.if-keeps.branch [
      | then-keeps w ↦
          let zs = w.swap_apart.new.items.items in
          let long : length zs ≡ length ys = omega (arith, w.swap_apart.ensures.len, length-set ys i y, c.loop-i.items.ok.0) in
          rw (w.items-is, w.kept-is) (record {
            kept = kept_one R c.args.asked f h xs ys k i p y so_far l at zs w.if-keeps.true c.keeps.ensures long w.swap_apart.ensures.swapped;
            order = omega (arith, c.loop-i.invariant.order);
            capacity = w.swap_apart.ensures.capacity ∙ c.loop-i.invariant.capacity;
          })
      | else-keeps w ↦
          rw (w.items-is, w.kept-is) (record {
            kept = kept_not R c.args.asked f h xs ys k i p y so_far l at w.if-keeps.false c.keeps.ensures;
            order = omega (arith, c.loop-i.invariant.order);
            capacity = c.loop-i.invariant.capacity;
          })
    ]
