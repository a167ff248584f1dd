use Rattle.std.proofs.Common.{◌≡◌, ◌++◌, map, length}
use Rattle.ds2_unit.specs.Outputs.{column_of_output}
use Rattle.ds2_program_text.proofs.output_tables.columns_of_output.Given as goal

abbrev pub invariant-columns : goal.invariant-columns
invariant-columns l = l.columns ++ map (column_of_output l.slots) l.rest ≡ map (column_of_output l.slots) l.named

abbrev pub decreases-columns : goal.decreases-columns
decreases-columns l = length l.rest
