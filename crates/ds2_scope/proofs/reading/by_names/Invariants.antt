use Rattle.std.proofs.Common.{◌≡◌, ◌++◌, drop}
use Rattle.std.specs.Prelude.{map}
use Rattle.ds2_scope.specs.Collected.{by_name}
use Rattle.ds2_scope.proofs.reading.by_names.Given as goal

abbrev pub invariant-bys : goal.invariant-bys
invariant-bys l = l.names ++ map by_name (drop l.b-index l.bys) ≡ map by_name l.bys
