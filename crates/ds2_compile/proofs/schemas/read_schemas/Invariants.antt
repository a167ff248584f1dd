use Rattle.std.proofs.Common.{length}
use Rattle.ds2_names.specs.SourceUnit.{columns_stored}
use Rattle.ds2_elaboration.specs.TypedPrograms.{HaveSchemas}
use Rattle.ds2_compile.proofs.schemas.read_schemas.Given as goal

abbrev pub invariant-tables : goal.invariant-tables
invariant-tables l = HaveSchemas (columns_stored l.rest) → HaveSchemas (columns_stored l.tables)

abbrev pub decreases-tables : goal.decreases-tables
decreases-tables l = length l.rest
