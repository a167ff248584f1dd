use Rattle.std.proofs.Common.{◌≡◌, take}
use Rattle.ds2_names.specs.SourceUnit.{columns_stored}
use Rattle.ds2_scope.specs.CodeUnits.{instances_in_source}
use Rattle.ds2_elaboration.specs.ExpressionTypes.{TypeScope}
use Rattle.ds2_elaboration.specs.UnitsBefore.{UnitsBefore}
use Rattle.ds2_declared_types.specs.TypesKnown.{TellsTypes}
use Rattle.ds2_type_tables.specs.Globals.{HasGlobals}
use Rattle.ds2_types.specs.Judgements.{IsOutcome}
use Rattle.ds2_instance_types.specs.TypedInstanceLists.{instances_rules, AreDeclared}
use Rattle.ds2_instance_types.proofs.instances.declared_instances.Given as goal

abbrev pub invariant-instances : goal.invariant-instances
invariant-instances l =
    (before : UnitsBefore) (scope : TypeScope) → TellsTypes l.context.known.now before → before.names.made ≡ l.context.made.now
    → HasGlobals l.context.globals.now scope.unjoined scope.variables scope.parameters scope.flags
    → IsOutcome (AreDeclared (columns_stored l.context.tables.now) before scope (instances_in_source (take l.instance-index l.instances)))
    (instances_rules (columns_stored l.context.tables.now) before scope (instances_in_source (take l.instance-index l.instances))) l.all
