-- Tables that a program makes, as text.
use Rattle.std.specs.Prelude.{ℕ, Bool, List, length}
use Rattle.ds2_table.specs.Table.{Contents}
use Rattle.ds2_csv.specs.Text as csv
use Rattle.ds2_meaning.specs.ProgramMeaning.{MadeTable}
use Rattle.ds2_program_text.specs.declared.written_table.WrittenTable.{WrittenTable}

-- a table of this name as text: the bytes of its file, and how many rows it has
abbrev pub written_table : (name : List ℕ) (overwrites : Bool) → Contents → WrittenTable
written_table name overwrites contents =
    record { name = name; overwrites = overwrites; columns = contents.columns; text = csv.text contents; rows = length contents.rows }

-- a table that a program makes, as text
abbrev pub made_as_text : MadeTable → WrittenTable
made_as_text table = written_table table.name table.overwrites table.contents
