use Rattle.std.proofs.Common.{◌≡◌, ◌++◌, drop}
use Rattle.std.specs.Prelude.{map}
use Rattle.ds2_declared_types.specs.Joins.{variable_named}
use Rattle.ds2_declared_types.proofs.variables.push_variables.Given as goal

abbrev pub invariant-tokens : goal.invariant-tokens
invariant-tokens l = l.variables ++ map (variable_named l.ty) (drop l.token-index l.tokens) ≡ l.fn.variables ++ map (variable_named l.ty) l.tokens
