use Rattle.std.proofs.Common.{◌≡◌, ◌++◌, drop}
use Rattle.ds2_program_code.specs.CodeParts.{columns_of_variables}
use Rattle.ds2_generate.proofs.tables.column_numbers.Given as goal

abbrev pub invariant-variables : goal.invariant-variables
invariant-variables l = l.list ++ columns_of_variables l.columns (drop l.variable-index l.variables) ≡ columns_of_variables l.columns l.variables
