use Rattle.std.proofs.Common.{◌≡◌, ◌++◌, drop}
use Rattle.ds2_names.specs.SourceUnit.{names_alone}
use Rattle.ds2_declared_types.proofs.names.names_alone.Given as goal

abbrev pub invariant-placed : goal.invariant-placed
invariant-placed l = l.names ++ names_alone (drop l.n-index l.placed) ≡ names_alone l.placed
