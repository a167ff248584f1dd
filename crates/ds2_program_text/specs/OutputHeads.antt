-- The tables of a program's outputs before its first row.
use Rattle.std.specs.Prelude.{List, []}
use Rattle.ds2_code.specs.declared.parts.OutputPart.{OutputPart}
use Rattle.ds2_code.specs.declared.parts.Slot.{Slot}
use Rattle.ds2_unit.specs.Outputs.{table_of_output}
use Rattle.ds2_program_text.specs.ProgramTexts.{written_table}
use Rattle.ds2_program_text.specs.declared.written_table.WrittenTable.{WrittenTable}

-- the table of an output, over the slots of its program, without rows
abbrev pub table_without_rows : List Slot → OutputPart → WrittenTable
table_without_rows slots output = written_table output.name output.overwrites (table_of_output slots output [])
