-- The idea: the made pair is at the index after the others, as no key before it matches the query.
use Rattle.std.proofs.Common.{◌≡◌, ◌∙◌, None, Some, ap, inr, subst, sym}
use Rattle.vecmap_base.{specs.Pairs.index_by, proofs.PairsLemmas.ByIndex.index_by_appended}
use Rattle.vecmap_map.proofs.ContentsLemmas.{appends_made, finds_match}
use Rattle.vecmap_map.proofs.VecMap.index_or_try_insert_with.Goals as goal

pub returns-in-Some-clause-insertion : goal.returns-in-Some-clause-insertion
returns-in-Some-clause-insertion g c =
    finds_match g.K.PartialEq.eq g.met.K.Eq.laws (g.Q.Equivalent.equivalent c.args.query) (g.met.Q.Equivalent.respects_eq c.args.query) _ c.args.self.now c.in-Some.index (sym c.get_index_of.ensures.index ∙ c.in-Some.is)

pub returns-in-Ok-clause-insertion : goal.returns-in-Ok-clause-insertion
returns-in-Ok-clause-insertion g c =
    let test = g.Q.Equivalent.equivalent c.args.query in
    let l = c.args.self.now.entries in
    let pair : g.row.K.Denot × g.row.V.Denot = (c.in_ok-key.key, c.in_ok-key.value) in
    let hit = c.requires.made _ c.in_ok-key.ensures in
    let none : index_by test l ≡ None = sym c.get_index_of.ensures.index ∙ c.in_default.is in
    let at = index_by_appended test l c.push.new.self.entries pair c.in-Ok.ensures.list none hit ∙ ap (λ n. Some n) (sym c.len-index.ensures.count) in
    appends_made g.K.PartialEq.eq g.met.K.Eq.laws test (g.met.Q.Equivalent.respects_eq c.args.query) _ c.args.self.now c.push.new.self pair c.len-index.result none hit c.in_ok-key.ensures c.in-Ok.ensures.list at

pub returns-in-Err-clause-err : goal.returns-in-Err-clause-err
returns-in-Err-clause-err g c = record {
  unchanged = c.in-Err.ensures.err.unchanged;
  absent = sym c.get_index_of.ensures.index ∙ c.in_default.is;
  cause = inr ((c.in_ok-key.key, c.in_ok-key.value), c.in_ok-key.ensures, c.in-Err.ensures.err.full, subst (λ pair. g.E.From.from_gives (record { given = pair }) c.from.result) c.in-Err.ensures.given c.from.ensures);
}
