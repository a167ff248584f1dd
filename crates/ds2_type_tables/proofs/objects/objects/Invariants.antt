use Rattle.std.proofs.Common.{take}
use Rattle.ds2_scope.specs.CodeUnits.{instances_in_source}
use Rattle.ds2_elaboration.specs.UnitsBefore.{UnitsBefore}
use Rattle.ds2_declared_types.specs.TypesKnown.{TellsTypes}
use Rattle.ds2_type_tables.specs.Objects.{objects_called, HasObjects}
use Rattle.ds2_type_tables.proofs.objects.objects.Given as goal

abbrev pub invariant-instances : goal.invariant-instances
invariant-instances l = (before : UnitsBefore) → TellsTypes l.known before → HasObjects l.table (objects_called before l.in_init (instances_in_source (take l.instance-index l.instances)))
