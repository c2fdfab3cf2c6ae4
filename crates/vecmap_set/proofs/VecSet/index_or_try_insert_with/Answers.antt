-- The idea: the made element is at the index after the others, as none before it matches the query.
use Rattle.std.specs.List.{list_any}
use Rattle.std.proofs.Common.{◌≡◌, ◌++◌, ◌∙◌, [], ◌∷◌, None, Some, ap, false, if◌then◌else◌, is_some, position, rules, sym, true}
use Rattle.std.proofs.lemmas.Option.{none-some}
use Rattle.vecmap_base.proofs.{IndexLemmas.{list_any_position, position_appended}, ItemsLemmas.Members.absent_by}
use Rattle.vecmap_set.proofs.{SetIndexLemmas.finds_at, SetInsertionLemmas.adds_item_by}
use Rattle.vecmap_set.proofs.VecSet.index_or_try_insert_with.Goals as goal

pub returns-in-Some-clause-insertion : goal.returns-in-Some-clause-insertion
returns-in-Some-clause-insertion g c =
    let test = g.Q.Equivalent.equivalent c.args.query in
    let s = c.args.self.now.elements in
    let found = finds_at test s c.in-Some.index (search rules) in
    let some : list_any test s ≡ true = list_any_position test s ∙ ap is_some found.index in
    record {
      insertion = adds_item_by g.T.PartialEq.eq g.met.T.Eq.laws s s (search rules) found.at.0 test (g.met.Q.Equivalent.respects_eq c.args.query) found.at.2 (sym (ap (λ b. if b then s else s ++ found.at.0 ∷ []) some));
      at = found;
      appended = λ absent. absurd (none-some c.in-Some.index (sym absent ∙ found.index));
    }

pub insert_unique-requires : goal.insert_unique-requires
insert_unique-requires g c = record {
  absent = absent_by g.T.PartialEq.eq g.met.T.Eq.laws (g.Q.Equivalent.equivalent c.args.query) (g.met.Q.Equivalent.respects_eq c.args.query) c.args.self.now.elements c.in_ok-item.item (search rules) (c.requires.made _ c.in_ok-item.ensures);
}

pub returns-in-Ok-clause-insertion : goal.returns-in-Ok-clause-insertion
returns-in-Ok-clause-insertion g c =
    let test = g.Q.Equivalent.equivalent c.args.query in
    let s = c.args.self.now.elements in
    let x = c.in_ok-item.item in
    let hit = c.requires.made _ c.in_ok-item.ensures in
    let more = c.in-Ok.ensures.list.elements in
    let none : position test s ≡ None = search rules in
    let absent : list_any test s ≡ false = list_any_position test s ∙ ap is_some none in
    record {
      insertion = adds_item_by g.T.PartialEq.eq g.met.T.Eq.laws s _ (search rules) x test (g.met.Q.Equivalent.respects_eq c.args.query) hit (more ∙ sym (ap (λ b. if b then s else s ++ x ∷ []) absent));
      at = finds_at test _ c.len-index.result (ap (position test) more ∙ position_appended test s x none hit ∙ ap (λ n. Some n) (sym c.len-index.ensures.count));
      appended = λ _. (x, c.in_ok-item.ensures, more);
    }
