-- What a list of options holds, and the value of each option.
use Rattle.std.specs.{Prelude.{Bool, List, Option}, Option.option_or}
use Rattle.vecmap.specs.Pairs.{lookup}

-- The default of each option, and the overrides, which are read first.
pub record Layers (K V : Type 0) : Type 0 where
  pub defaults : List (K × V)
  pub overrides : List (K × V)

-- The override of an option, or else its default, or `None` if it has neither.
abbrev pub setting : {K V : Type 0} → (K → K → Bool) → Layers K V → K → Option V
setting eq options name = option_or (lookup eq options.overrides name) (lookup eq options.defaults name)
