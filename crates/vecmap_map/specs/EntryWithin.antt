-- After a write of a value, the index of an entry is still below the length. An entry holds this fact, so the
-- definition of an entry with another value needs its proof. It is here because a file of specs/ may not name the
-- proofs of its crate.
use Rattle.std.specs.{Prelude.{◌≡◌, ℕ, ◌<◌, List, Option, None, Some, length, refl, slice_get, slice_set}, Option.option_map_or}
use Rattle.std.proofs.{Common.{subst, sym}, lemmas.List.length-set}
use Rattle.vecmap_base.specs.Pairs.{with_value}
use Rattle.vecmap_map.specs.declared.entry.occupied.OccupiedEntry.{OccupiedEntry}

module _ {K V : Type 0} where
  -- A write of a value does not change the length.
  length-with_value : (l : List (K × V)) (i : ℕ) (v : V) → length (with_value l i v) ≡ length l
  length-with_value l i v = by (slice_get l i)
    where
      by : (o : Option (K × V)) → length (option_map_or (λ p. slice_set l i (p.0, v)) o l) ≡ length l
      by None = refl
      by (Some p) = length-set l i (p.0, v)

  pub still_within : (o : OccupiedEntry K V) (v : V) → o.index < length (with_value o.map.now.entries o.index v)
  still_within o v = subst (λ n. o.index < n) (sym (length-with_value o.map.now.entries o.index v)) o.within
