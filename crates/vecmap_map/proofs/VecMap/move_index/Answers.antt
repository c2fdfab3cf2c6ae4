use Rattle.std.{specs.List.Sorted.IsPermutation, proofs.Common.{rules, subst}}
use Rattle.vecmap_base.proofs.PairsLemmas.Reordered.{moves_pair}
use Rattle.vecmap_map.proofs.VecMap.move_index.Goals as goal

pub returns-clause-reordered : goal.returns-clause-reordered
returns-clause-reordered g c =
    moves_pair c.args.self.now.entries _ c.args.from c.args.to (subst (λ m. IsPermutation m.entries c.move_to.new.items.items) c.self.view_is c.move_to.ensures.rearranged)
    (search rules) c.requires.from_within c.requires.to_within
