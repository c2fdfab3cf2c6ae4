-- What a header list with several values for a name holds: pairs of a name's bytes and the vector of its values.
use Rattle.std.specs.{Prelude.{ℕ, List, [], String, Vec}, Option.option_map_or, Str.str_eq_ignore_ascii_case}
use Rattle.vecmap.specs.Pairs.{lookup}

-- The values of a name, in any case, or none if no field has the name.
abbrev pub values_of : {A B : Type 0} → List (List ℕ × Vec (String A) B) → List ℕ → List (String A)
values_of fields name = option_map_or (λ values. values.items) (lookup str_eq_ignore_ascii_case fields name) []
