use Rattle.std.proofs.Common.{◌≡◌, ◌++◌, drop}
use Rattle.ds2_scope.specs.CodeUnits.{names_bracketed}
use Rattle.ds2_elaboration.specs.ExpressionTypes.{TypeScope}
use Rattle.ds2_elaboration.specs.ProgramTypes.{typed_hash_variables}
use Rattle.ds2_type_tables.specs.Globals.{HasGlobals}
use Rattle.ds2_instance_types.proofs.hashes.hash_variables.Given as goal

abbrev pub invariant-names : goal.invariant-names
invariant-names l =
    (scope : TypeScope) → HasGlobals l.globals scope.unjoined scope.variables scope.parameters scope.flags
    → l.variables ++ typed_hash_variables scope (names_bracketed (drop l.n-index l.names)) ≡ typed_hash_variables scope (names_bracketed l.names)
