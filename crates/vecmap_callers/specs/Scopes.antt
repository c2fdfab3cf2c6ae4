-- What names mean in nested scopes. The outermost scope is the first of the list, and the innermost is the last.
use Rattle.std.specs.{Prelude.{◌-◌, Bool, List, None, Option, fold, length, take}, Option.option_or}
use Rattle.vecmap.specs.{Contents.Contents, Pairs.lookup}

module _ {K V : Type 0} where
  -- The value of a name in the innermost scope that defines it, or `None` if no scope does.
  abbrev pub resolved : (K → K → Bool) → List (Contents K V) → K → Option V
  resolved eq scopes name = fold (λ outer scope. option_or (lookup eq scope.entries name) outer) None scopes

  -- All scopes except the innermost.
  abbrev pub outer : List (Contents K V) → List (Contents K V)
  outer scopes = take (length scopes - 1) scopes
