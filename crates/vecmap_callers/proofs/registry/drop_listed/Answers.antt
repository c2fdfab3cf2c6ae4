use Rattle.std.proofs.{Common.{rules, ◌≡◌, ◌∙◌, ℕ, Bool, None, ap, eqb-true, false, if◌then◌else◌, is_some, nat_eq, not, refl, true}}
use Rattle.vecmap.specs.Pairs.{lookup}
use Rattle.vecmap_callers.proofs.registry.drop_listed.Goals as goal

pub returns-clause-lookups : goal.returns-clause-lookups
returns-clause-lookups c = λ key.
    let stays : ℕ → Bool = λ k. not (is_some (lookup nat_eq c.args.listed.now.entries k)) in
    let kept = c.retain.ensures.selection.left.filters (λ p. stays p.0) (λ x b y g call. search rules) in
    rw kept (c.filters_keep_lookups.ensures.by_key stays (λ x y e. ap stays (eqb-true x y e)) c.args.stock.now.entries key ∙ turned (lookup nat_eq c.args.stock.now.entries key) None (is_some (lookup nat_eq c.args.listed.now.entries key)))
  where
    turned : {X : Type 0} (x y : X) (b : Bool) → (if not b then x else y) ≡ (if b then y else x)
    turned x y true = refl
    turned x y false = refl
