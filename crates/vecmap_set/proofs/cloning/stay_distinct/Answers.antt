-- The idea: if each clone is equal to its original, the clones are as distinct as the originals.
use Rattle.std.{proofs.Common.{◌≡◌, Bool, IsTrue, List, [], ◌∷◌, true, sym, true≢false}, specs.Cmp.{first_so, second_so}}
use Rattle.std.specs.Cmp.Lexicographic.{pointwise}
use Rattle.vecmap_base.{specs.Clones.AreClones, proofs.DistinctLemmas.distinct_clones}
use Rattle.vecmap_set.proofs.cloning.stay_distinct.Goals as goal

-- Lists that are equal item by item.
are_equal : {T : Type 0} (eq : T → T → Bool) (xs ys : List T) → pointwise eq xs ys ≡ true → AreClones (λ x y. IsTrue (eq x y)) xs ys
are_equal eq [] [] e = tt
are_equal eq [] (y ∷ ys) e = absurd (true≢false (sym e))
are_equal eq (x ∷ xs) [] e = absurd (true≢false (sym e))
are_equal eq (x ∷ xs) (y ∷ ys) e =
    (first_so (eq x y) (pointwise eq xs ys) e, are_equal eq xs ys (second_so (eq x y) (pointwise eq xs ys) e))

pub returns-then-eq : goal.returns-then-eq
returns-then-eq g c =
    let eq = g.T.PartialEq.eq in
    let xs = c.args.items.now in
    let ys = c.args.clones.now in (
      λ h. distinct_clones eq g.met.T.Eq.laws (λ x y. IsTrue (eq x y)) (λ x y e. e) xs ys (are_equal eq xs ys (rw (← c.eq.ensures) h)) c.requires,
      λ d. c.if-eq.true,
    )
