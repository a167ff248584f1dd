use Rattle.std.proofs.Common.{◌≡◌, ◌++◌, drop}
use Rattle.ds2_elaboration.specs.SourceTypes.{declared_variables}
use Rattle.ds2_declared_types.proofs.variables.push_declarations.Given as goal

abbrev pub invariant-declarations : goal.invariant-declarations
invariant-declarations l = l.variables ++ declared_variables (drop l.v-index l.declarations) ≡ l.fn.variables ++ declared_variables l.declarations
