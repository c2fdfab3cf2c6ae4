use Rattle.std.{specs.Prelude.{◌≡◌, ◌-◌, Some, if◌then◌else◌, length}, proofs.Common.{arith, get_or, ◌∙◌}}
use Rattle.vecmap.specs.Pairs.{put}
use Rattle.vecmap_callers.{specs.Scopes.resolved, proofs.ScopeLemmas.resolved_defined}
use Rattle.vecmap_callers.proofs.scopes.Scopes.define.Goals as goal

pub returns-clause-meanings : goal.returns-clause-meanings
returns-clause-meanings g c = λ q.
    let eq = g.K.PartialEq.eq in
    let scopes = c.self.inside.scopes.items in
    let last = c.index_mut.result.now in
    let at : c.len-last.result ≡ length scopes = grind (arith, c.len-last.ensures, c.self.inside.scopes.ok) in
    let insert_reserved : c.insert.new.self.entries ≡ put eq (get_or scopes (length scopes - 1) last).entries c.args.name c.args.value = grind (arith, at, c.index_mut.ensures.value, c.in_ok-insert.ensures.insertion.entries) in
    rw at (resolved_defined eq g.met.K.Eq.laws scopes last c.insert.new.self c.args.name c.args.value q c.self.invariant insert_reserved)
    ∙ (λ t. if eq c.args.name q then Some c.args.value else resolved eq (c.self.view_is t) q)
