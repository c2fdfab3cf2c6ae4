-- After `i` pairs the front is what their insertions leave, and the rest is unchanged. The keys and the values are
-- permuted.
use Rattle.std.proofs.Common.{◌≡◌, ◌+◌, ◌<◌, None, take, length, get_or, [], ◌∷◌, ◌++◌, sym, ap, subst, ◌∙◌, arith}
use Rattle.std.specs.{List.Sorted.IsPermutation, Map.keys_of, Map.values_of}
use Rattle.std.proofs.lemmas.{Map.Entries.length-values_of, List.length_push, List.length-take}
use Rattle.std.proofs.lemmas.List.Sorted.{IsPermutation-trans, IsPermutation-map, IsPermutation-swap}
use Rattle.vecmap_base.specs.{Comparisons.{comparisons, search_cost}, Pairs.{index_of, put, puts}}
use Rattle.vecmap_base.proofs.DuplicatesLemmas.{ComparisonCounts.{key_comparisons_below, key_comparisons_more}, Gather.{front_put, front_swapped, rest_more}}
use Rattle.vecmap_base.proofs.{PairsLemmas.Puts.{puts_more, put_absent}, duplicates.gather_pairs.Goals.{in-None, in-Some}}
use Rattle.vecmap_base.proofs.duplicates.gather_pairs.Goals as goal

pub find_counted-requires : goal.find_counted-requires
find_counted-requires g c = record {
  bounded = omega (arith, length-take c.loop-i.kept c.loop-i.pairs, key_comparisons_below g.K.PartialEq.eq c.args.pairs.now c.loop-i.i c.loop-i-test.true);
}

pub loop-i-preserved : goal.loop-i-preserved
loop-i-preserved g c =
    let eq = g.K.PartialEq.eq in
    let xs = c.args.pairs.now in
    let ys = c.loop-i.pairs in
    let i = c.loop-i.i in
    let n = c.loop-i.kept in
    let p = c.index-shared-i.result in
    let was = c.loop-i.invariant in
    let l : i < length xs = omega arith in
    let m : i < length ys = omega arith in
    let rest = rest_more xs ys i p l m was.rest in
    let s = puts eq [] (take i xs) in
    let q = get_or xs i p in
    let more = puts_more eq xs i p l in
    let next_steps : c.find_counted.new.steps ≡ c.loop-i.steps + search_cost eq (keys_of s) q.0 = c.find_counted.ensures.counted ∙ (λ t. c.loop-i.steps + search_cost eq (keys_of (was.front t)) (rest.0 t).0) in
    let counted : c.find_counted.new.steps ≡ c.args.steps.now + comparisons eq (keys_of (take (i + 1) xs)) = omega (arith, next_steps, was.counted, key_comparisons_more eq xs i p l) in
    elim c.match-find_counted.branch [
      | in-Some w ↦
          rw (w.pairs-is, w.kept-is) (
          let zs = w.swap_values.new.pairs in
          let j = w.in-Some.index in
          let long : length zs ≡ length ys = w.swap_values.auto.pairs in
          let before : j < n = omega (arith, length-take n ys, w.in-Some.ensures.within) in
          let moved = front_put eq ys zs n j i (get_or ys i p).0 p before was.bound m w.swap_values.ensures.keys w.swap_values.ensures.values (sym w.in-Some.ensures.index) in
          let there : put eq (take n ys) (get_or ys i p).0 (get_or ys i p).1 ≡ puts eq [] (take (i + 1) xs) = (λ t. put eq (was.front t) (rest.0 t).0 (rest.0 t).1) ∙ sym more in
          let kept : length (take n zs) ≡ n = omega (arith, length-take n zs) in
          record {
            bound = omega arith;
            count = sym kept ∙ ap length (moved.0 ∙ there);
            front = moved.0 ∙ there;
            rest = moved.1 ∙ rest.1;
            keys = subst (IsPermutation (keys_of xs)) (sym w.swap_values.ensures.keys) was.keys;
            values = IsPermutation-trans _ _ _ was.values (IsPermutation-swap (values_of ys) (values_of zs) j i (omega (arith, length-values_of ys)) (omega (arith, length-values_of ys)) w.swap_values.ensures.values);
            counted = counted;
          })
      | in-None w ↦
          rw (w.pairs-is, w.kept-is) (
          let none : index_of eq s q.0 ≡ None = sym (λ t. index_of eq (was.front t) (rest.0 t).0) ∙ sym w.in-None.ensures.index in
          let new : puts eq [] (take (i + 1) xs) ≡ s ++ q ∷ [] = more ∙ put_absent eq s q.0 q.1 none in
          let moved = front_swapped ys w.swap.new.self n i p was.bound m w.swap.ensures.len w.swap.ensures.by_index in
          record {
            bound = omega arith;
            count = ap (λ n. n + 1) was.count ∙ sym (length_push s q) ∙ sym (ap length new);
            front = moved.0 ∙ (λ t. was.front t ++ rest.0 t ∷ []) ∙ sym new;
            rest = moved.1 ∙ rest.1;
            keys = IsPermutation-trans _ _ _ was.keys (IsPermutation-map (λ r. r.0) _ _ w.swap.ensures.permutation);
            values = IsPermutation-trans _ _ _ was.values (IsPermutation-map (λ r. r.1) _ _ w.swap.ensures.permutation);
            counted = counted;
          })
    ]
