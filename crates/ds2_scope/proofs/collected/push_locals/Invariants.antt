use Rattle.std.proofs.Common.{◌≡◌, ◌++◌, drop}
use Rattle.ds2_names.specs.SourceUnit.{declared_names}
use Rattle.ds2_scope.proofs.collected.push_locals.Given as goal

abbrev pub invariant-declarations : goal.invariant-declarations
invariant-declarations l = l.names ++ declared_names (drop l.v-index l.declarations) ≡ l.fn.names ++ declared_names l.declarations
