use Rattle.std.{proofs.Common.{◌≡◌, ◌∙◌, is_some, arith, None, Option, Some, IfSome, ap, sym}, specs.Option.option_and_then}
use Rattle.vecmap_base.specs.{Lookups.UpdatesBy, Pairs.{index_by, value_at, with_value}}
use Rattle.vecmap_base.proofs.PairsLemmas.{AtIndices.{match_if_found, updates_at}, ByIndex.{is_some_lookup_by, lookup_by_index}}
use Rattle.vecmap_map.proofs.VecMap.get_index_of.Goals as goal

pub returns-clause-found : goal.returns-clause-found
returns-clause-found g c =
    let l = c.args.self.now.entries in
    let test = g.Q.Equivalent.equivalent c.args.query in
    let at : c.find_equivalent.result ≡ index_by test l = grind arith in
    record {
      found = ap is_some at ∙ sym (is_some_lookup_by test l);
      stored = ap (option_and_then (value_at l)) at ∙ sym (lookup_by_index test l);
      written = written c.find_equivalent.result at;
    }
  where
    written : (found : Option _) → found ≡ index_by (g.Q.Equivalent.equivalent c.args.query) c.args.self.now.entries
        → IfSome found (λ i. (value : _) → UpdatesBy g.K.PartialEq.eq (g.Q.Equivalent.equivalent c.args.query) c.args.self.now.entries (with_value c.args.self.now.entries i value) (Some value))
    written None e = tt
    written (Some i) e = λ v. (updates_at c.args.self.now.entries i v).updates g.K.PartialEq.eq (g.Q.Equivalent.equivalent c.args.query) g.met.K.Eq.laws (g.met.Q.Equivalent.respects_eq c.args.query) (sym e)

pub returns-clause-at : goal.returns-clause-at
returns-clause-at g c = match_if_found (g.Q.Equivalent.equivalent c.args.query) c.args.self.now.entries c.find_equivalent.result (grind arith)
