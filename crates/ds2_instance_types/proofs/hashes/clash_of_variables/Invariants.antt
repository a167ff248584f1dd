use Rattle.std.proofs.Common.{◌≡◌, take}
use Rattle.ds2_names.specs.NameRules.{from_each}
use Rattle.ds2_scope.specs.CodeUnits.{names_bracketed}
use Rattle.ds2_elaboration.specs.ExpressionTypes.{TypeScope}
use Rattle.ds2_type_tables.specs.Globals.{HasGlobals}
use Rattle.ds2_types.specs.Judgements.{first_type_refusal}
use Rattle.ds2_instance_types.specs.HashDeclarations.{load_rules}
use Rattle.ds2_instance_types.proofs.hashes.clash_of_variables.Given as goal

abbrev pub invariant-names : goal.invariant-names
invariant-names l =
    (scope : TypeScope) → HasGlobals l.globals scope.unjoined scope.variables scope.parameters scope.flags
    → l.found ≡ first_type_refusal (from_each (load_rules l.columns scope l.text) (names_bracketed (take l.n-index l.names)))
