use Rattle.std.proofs.Common.{◌≡◌, ◌++◌, drop}
use Rattle.std.specs.Prelude.{map}
use Rattle.ds2_names.specs.SourceUnit.{placed_name}
use Rattle.ds2_scope.proofs.names.push_names.Given as goal

abbrev pub invariant-tokens : goal.invariant-tokens
invariant-tokens l = l.names ++ map placed_name (drop l.token-index l.tokens) ≡ l.fn.names ++ map placed_name l.tokens
