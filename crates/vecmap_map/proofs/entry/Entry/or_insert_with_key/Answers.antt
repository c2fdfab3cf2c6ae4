use Rattle.std.{proofs.{Common.{◌≡◌, ap, refl, subst, sym}, lemmas.Result.{IfErr-weaker, IfOk-weaker}}, specs.Fn.FnOnceReturnsAt}
use Rattle.vecmap_map.proofs.entry.Entry.or_insert_with_key.Goals as goal

pub returns-in-Vacant : goal.returns-in-Vacant
returns-in-Vacant g c =
    let made = FnOnceReturnsAt g.F.FnOnce c.args.f c.in-Vacant.entry.key in
    let gave : made c.f-value.result = (_, c.f-value.ensures, c.key.ensures) in
    let pair : g.row.K.Denot × g.row.V.Denot = (c.in-Vacant.entry.key, c.f-value.result) in
    rw c.in-Vacant.is (
      (refl, c.insert.follows.holds, c.insert.follows.holds-at-none),
      record {
        writes_back = tt;
        value = IfOk-weaker _ _ _ (λ x e. subst made (sym e) gave) c.insert.ensures.value;
        given_key = IfErr-weaker c.insert.result (λ y. y.given ≡ pair) (λ y. y.given.0 ≡ pair.0) (λ y e. ap (λ (p : g.row.K.Denot × g.row.V.Denot). p.0) e) c.insert.ensures.given;
        given_value = IfErr-weaker c.insert.result (λ y. y.given ≡ pair) (λ y. made y.given.1) (λ y e. subst made (sym (ap (λ (p : g.row.K.Denot × g.row.V.Denot). p.1) e)) gave) c.insert.ensures.given;
      },
    )
