use Rattle.std.proofs.Common.{◌≡◌, ◌++◌, drop}
use Rattle.std.specs.Prelude.{map}
use Rattle.ds2_scope.specs.Collected.{output_table_name}
use Rattle.ds2_scope.proofs.collected.output_names.Given as goal

abbrev pub invariant-outputs : goal.invariant-outputs
invariant-outputs l = l.names ++ map output_table_name (drop l.o-index l.outputs) ≡ map output_table_name l.outputs
