use Rattle.std.proofs.{lemmas.Grind.common_steps, Common.{◌≡◌, ◌++◌, ◌∷◌, arith, length, rules, subst}}
use Rattle.std.specs.{List.IsDistinct, Vec.Iter.drain_items}
use Rattle.vecmap_set.proofs.MemberLemmas.{absent_from_adds, adds_present, joins_items}
use Rattle.vecmap_set.proofs.VecSet.append.Goals as goal

pub insert_unique-requires : goal.insert_unique-requires
insert_unique-requires g c =
    let eq = g.T.PartialEq.eq in
    let whole : IsDistinct eq c.args.other.now.elements = search rules in
    let left : c.args.other.now.elements ≡ c.loop-item.yielded ++ c.in-Some.item ∷ drain_items c.next.new.self = grind (arith, common_steps) in
    let len : c.len-len.result ≡ length c.args.self.now.elements = grind (arith, common_steps) in
    record { absent = absent_from_adds eq g.met.T.Eq.laws c.args.self.now.elements c.loop-item.yielded (drain_items c.next.new.self) c.loop-item.self.elements c.in-Some.item c.loop-item.invariant.elements (subst (IsDistinct eq) left whole) (grind (arith, common_steps, len)) }

pub loop-item-preserved : goal.loop-item-preserved
loop-item-preserved g c =
    let len : c.len-len.result ≡ length c.args.self.now.elements = grind (arith, common_steps) in record {
      elements = adds_present g.T.PartialEq.eq g.met.T.Eq.laws c.args.self.now.elements c.loop-item.yielded c.loop-item.self.elements c.in-Some.item c.loop-item.invariant.elements (grind (arith, common_steps, len));
      long = search rules;
      distinct = search rules;
      rest = grind (arith, common_steps);
      room = grind (arith, common_steps);
      capacity = search rules;
      stays = search rules;
    }

pub returns-clause-insertion : goal.returns-clause-insertion
returns-clause-insertion g c =
    joins_items g.T.PartialEq.eq g.met.T.Eq.laws c.args.self.now.elements c.args.other.now.elements _ (search rules) (search rules) (grind (arith, common_steps))
