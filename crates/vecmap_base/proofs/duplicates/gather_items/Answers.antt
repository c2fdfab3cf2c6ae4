-- After `i` items the front is what their additions leave, and the rest is unchanged. A new item is swapped to the end
-- of the front.
use Rattle.std.{specs.Set.is_member, proofs.Common.{◌≡◌, ◌+◌, ◌<◌, take, length, get_or, [], ◌∷◌, ◌++◌, sym, ap, ◌∙◌, arith}}
use Rattle.std.proofs.lemmas.List.{length_push, length-take, Sorted.IsPermutation-trans}
use Rattle.vecmap_base.specs.{Comparisons.{comparisons, search_cost}, Items.adds}
use Rattle.vecmap_base.proofs.DuplicatesLemmas.{ComparisonCounts.{comparisons_below, comparisons_more}, Gather.{front_swapped, rest_more}}
use Rattle.vecmap_base.proofs.ItemsLemmas.Additions.{adds_more, add_absent, add_present}
use Rattle.vecmap_base.proofs.duplicates.gather_items.Goals.{else-not-contains_counted, then-not-contains_counted}
use Rattle.vecmap_base.proofs.duplicates.gather_items.Goals as goal

pub contains_counted-requires : goal.contains_counted-requires
contains_counted-requires g c = record {
  bounded = omega (arith, length-take c.loop-i.kept c.loop-i.items, comparisons_below g.T.PartialEq.eq c.args.items.now c.loop-i.i c.loop-i-test.true);
}

pub loop-i-preserved : goal.loop-i-preserved
loop-i-preserved g c =
    let eq = g.T.PartialEq.eq in
    let xs = c.args.items.now in
    let ys = c.loop-i.items in
    let i = c.loop-i.i in
    let k = c.loop-i.kept in
    let x = c.index-shared-i.result in
    let was = c.loop-i.invariant in
    let l : i < length xs = omega arith in
    let m : i < length ys = omega arith in
    let rest = rest_more xs ys i x l m was.rest in
    let s = adds eq [] (take i xs) in
    let more = adds_more eq xs i x l in
    let next : x ≡ get_or xs i x = c.index-shared-i.is ∙ rest.0 in
    let next_steps : c.contains_counted.new.steps ≡ c.loop-i.steps + search_cost eq s (get_or xs i x) = c.contains_counted.ensures.counted ∙ (λ t. c.loop-i.steps + search_cost eq (was.front t) (next t)) in
    let counted : c.contains_counted.new.steps ≡ c.args.steps.now + comparisons eq (take (i + 1) xs) = omega (arith, next_steps, was.counted, comparisons_more eq xs i x l) in
    let answer : c.contains_counted.result ≡ is_member eq s (get_or xs i x) = c.contains_counted.ensures.found ∙ (λ t. is_member eq (was.front t) (next t)) in
    elim c.if-not-contains_counted.branch [
      | then-not-contains_counted w ↦
          rw (w.items-is, w.kept-is) (
          let new : adds eq [] (take (i + 1) xs) ≡ s ++ get_or xs i x ∷ [] = more ∙ add_absent eq s (get_or xs i x) (sym answer ∙ w.if-not-contains_counted.true) in
          let moved = front_swapped ys w.swap.new.self k i x was.bound m w.swap.ensures.len w.swap.ensures.by_index in
          record {
            bound = omega arith;
            count = ap (λ n. n + 1) was.count ∙ sym (length_push s (get_or xs i x)) ∙ sym (ap length new);
            front = moved.0 ∙ (λ t. was.front t ++ rest.0 t ∷ []) ∙ sym new;
            rest = moved.1 ∙ rest.1;
            items = IsPermutation-trans _ _ _ was.items w.swap.ensures.permutation;
            counted = counted;
          })
      | else-not-contains_counted w ↦
          rw (w.items-is, w.kept-is) (
          let old : adds eq [] (take (i + 1) xs) ≡ s = more ∙ add_present eq s (get_or xs i x) (sym answer ∙ w.if-not-contains_counted.false) in
          record {
            bound = omega arith;
            count = was.count ∙ sym (ap length old);
            front = was.front ∙ sym old;
            rest = rest.1;
            items = was.items;
            counted = counted;
          })
    ]
