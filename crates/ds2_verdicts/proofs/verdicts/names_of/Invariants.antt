use Rattle.std.proofs.Common.{◌≡◌, ◌++◌, drop}
use Rattle.std.specs.Prelude.{map}
use Rattle.ds2_scope.specs.CodeUnits.{instances_in_source}
use Rattle.ds2_verdicts.specs.ThreadVerdicts.{declaration_name}
use Rattle.ds2_verdicts.proofs.verdicts.names_of.Given as goal

abbrev pub invariant-instances : goal.invariant-instances
invariant-instances l = l.names ++ map declaration_name (instances_in_source (drop l.instance-index l.instances)) ≡ map declaration_name (instances_in_source l.instances)
