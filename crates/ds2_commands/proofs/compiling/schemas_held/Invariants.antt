use Rattle.std.proofs.Common.{◌≡◌, ◌++◌, drop, map}
use Rattle.ds2_commands.specs.SourceLoads.{schema_held}
use Rattle.ds2_commands.proofs.compiling.schemas_held.Given as goal

abbrev pub invariant-tables : goal.invariant-tables
invariant-tables l = l.schemas ++ map schema_held (drop l.table-index l.stored) ≡ map schema_held l.stored
