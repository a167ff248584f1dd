-- The tables that a command holds while its programs run: those that it has read from the store, and those that earlier programs have made.
use Rattle.std.specs.Prelude.{ℕ, ◌-◌, ◌==◌, bytes_eq, if◌then◌else◌, List, [], ◌∷◌, ◌++◌, map, slice_get, unwrap_or}
use Rattle.ds2_table.specs.Table.{Contents}
use Rattle.ds2_source.specs.ProgramMeaning.{MadeTable}
use Rattle.ds2_source.specs.Reading.{TableRows}
use Rattle.ds2_source.specs.SourceUnit.{TableColumns}
use Rattle.ds2_code.specs.declared.parts.StagedParts.{StagedParts}
use Rattle.ds2_code.specs.declared.parts.TableReference.{TableReference}
use Rattle.ds2_code_answer.specs.CodeTables.{program_references}

-- a table by its name, and what it contains
pub record NamedTable : Type 0 where
  pub name : List ℕ
  pub contents : Contents

-- what the first of these tables of a name contains; nothing where no table has it
abbrev pub contents_named : List NamedTable → List ℕ → Contents
contents_named [] name = record { columns = []; rows = [] }
contents_named (t ∷ tables) name = if bytes_eq t.name name then t.contents else contents_named tables name

-- a table that a program makes, by its name
abbrev pub made_by_name : MadeTable → NamedTable
made_by_name made = record { name = made.name; contents = made.contents }

-- tables that are held: those of the store that were read, and for each data program that has run those that it has made
pub record HeldTables : Type 0 where
  pub stored : List NamedTable
  pub made : List (List NamedTable)

-- tables of the store are held, and no program has run
abbrev pub held_from_store : List NamedTable → HeldTables
held_from_store stored = record { stored = stored; made = [] }

-- the next program has made these tables
abbrev pub held_behind : HeldTables → List NamedTable → HeldTables
held_behind held tables = record { stored = held.stored; made = held.made ++ tables ∷ [] }

-- the tables of a maker: those of the store for 0, those of the k-th program for k
abbrev pub tables_of_maker : HeldTables → ℕ → List NamedTable
tables_of_maker held maker = if maker == 0 then held.stored else unwrap_or (slice_get held.made (maker - 1)) []

-- what the held table of this name and maker contains
abbrev pub contents_held : HeldTables → List ℕ → ℕ → Contents
contents_held held name maker = contents_named (tables_of_maker held maker) name

-- the columns of the tables of the store
abbrev pub columns_held : HeldTables → TableColumns
columns_held held = λ name. Contents.columns (contents_named held.stored name)

-- the rows of the table that a mention in a source means
abbrev pub rows_held : HeldTables → TableRows
rows_held held = λ mentioned. Contents.rows (contents_held held mentioned.name mentioned.maker)

-- the table that a reference in code means
abbrev pub table_held : HeldTables → TableReference → Contents
table_held held reference = contents_held held reference.name reference.maker

-- the tables that a program's code names, in the order of their numbers
abbrev pub tables_held : HeldTables → StagedParts → List Contents
tables_held held code = map (table_held held) (program_references code.program code.stages)
