use Rattle.std.proofs.Common.{◌≡◌, ◌++◌, drop, map}
use Rattle.ds2_value.specs.declared.schema.Column.{Column}
use Rattle.ds2_meaning.specs.declared.globals.OutputColumn.{OutputColumn}
use Rattle.ds2_compile.proofs.outputs.columns_of.Given as goal

-- a column of an output, as one of a table
abbrev column_made : OutputColumn → Column
column_made c = record { name = c.name; ty = c.ty }

abbrev pub invariant-columns : goal.invariant-columns
invariant-columns l = l.all ++ map column_made (drop l.column-index l.columns) ≡ map column_made l.columns
