-- The tables that a program's code names, in the order of their numbers: those of its hash objects, those of its reading statement, and
-- then, in their place, those of the thread program that it reads from.
use Rattle.std.specs.Prelude.{◌≡◌, ℕ, List, [], ◌∷◌, ◌++◌, length, map, drop, Option, Some, None}
use Rattle.ds2_value.specs.Row.{Row, Columns}
use Rattle.ds2_table.specs.Table.{Contents}
use Rattle.ds2_code.specs.declared.parts.HashPart.{HashPart}
use Rattle.ds2_code.specs.declared.parts.HashTable.{HashTable}
use Rattle.ds2_code.specs.declared.parts.ProgramParts.{ProgramParts}
use Rattle.ds2_code.specs.declared.parts.ReadPart.{ReadPart}
use Rattle.ds2_code.specs.declared.parts.ReadingPart.{ReadingPart}
use Rattle.ds2_code.specs.declared.parts.ReadingPart.TheVariants as reading
use Rattle.ds2_code.specs.declared.parts.StagedParts.{StagedParts}
use Rattle.ds2_code.specs.declared.parts.TableReference.{TableReference}

-- the table that a hash object is loaded from, where there is one, before others
abbrev pub with_loaded_table : Option HashTable → List TableReference → List TableReference
with_loaded_table None others = others
with_loaded_table (Some loaded) others = loaded.table ∷ others

-- the tables that hash objects are loaded from
abbrev pub hash_references : List HashPart → List TableReference
hash_references [] = []
hash_references (hash ∷ hashes) = with_loaded_table hash.loaded (hash_references hashes)

-- the tables of a reading statement
abbrev pub reading_references : ReadingPart → List TableReference
reading_references (reading.Set reads bys) = map (λ (r : ReadPart). r.table) reads
reading_references (reading.Merge reads bys retains) = map (λ (r : ReadPart). r.table) reads
reading_references (reading.Stage threads into) = []
reading_references reading.Once = []
reading_references reading.Nothing = []

-- the tables of a program that reads from the first of these thread programs, where there is one
abbrev pub program_references : ProgramParts → List ProgramParts → List TableReference
program_references code [] = hash_references code.hashes ++ reading_references code.reading
program_references code (stage ∷ stages) = hash_references code.hashes ++ program_references stage stages

-- the number of a program's first table behind those of its hash objects
abbrev pub first_read_table : ProgramParts → ℕ
first_read_table code = length (hash_references code.hashes)

-- the tables of the thread program that a program reads from
abbrev pub tables_of_stage : ProgramParts → List Contents → List Contents
tables_of_stage code tables = drop (first_read_table code) tables

-- the columns of a table that code names
abbrev pub columns_named : TableReference → Columns
columns_named reference = reference.columns

-- the columns of a table
abbrev pub columns_had : Contents → Columns
columns_had table = table.columns

-- these are tables for code: one for each table that it names, with the columns that it names
abbrev pub AreTablesOfCode : StagedParts → List Contents → Type 0
AreTablesOfCode parts tables = map columns_had tables ≡ map columns_named (program_references parts.program parts.stages)

-- the rows of each table
abbrev pub rows_of_each : List Contents → List (List Row)
rows_of_each tables = map (λ (t : Contents). t.rows) tables
