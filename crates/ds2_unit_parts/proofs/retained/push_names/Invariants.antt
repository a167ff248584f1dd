use Rattle.std.proofs.Common.{◌≡◌, ◌++◌, drop}
use Rattle.std.specs.Prelude.{map}
use Rattle.ds2_names.specs.SourceUnit.{spelled_name}
use Rattle.ds2_unit_parts.proofs.retained.push_names.Given as goal

abbrev pub invariant-tokens : goal.invariant-tokens
invariant-tokens l = l.names ++ map spelled_name (drop l.token-index l.tokens) ≡ l.fn.names ++ map spelled_name l.tokens
