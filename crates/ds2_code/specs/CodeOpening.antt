-- What valid code begins with: its data before the first unit, and what rows of tables set.
use Rattle.std.specs.Prelude.{◌≡◌, IsTrue, ℕ, ◌+◌, ◌^◌, ◌<◌, List, [], ◌∷◌, length, slice_get, Option, Some, None}
use Rattle.std.specs.List.{list_all}
use Rattle.ds2_value.specs.Row.{Row, Columns}
use Rattle.ds2_value.specs.Schema.{row_fits, types_in_bounds}
use Rattle.ds2_code.specs.declared.parts.HashPart.{HashPart}
use Rattle.ds2_code.specs.declared.parts.HashTable.{HashTable}
use Rattle.ds2_code.specs.declared.parts.ProgramParts.{ProgramParts}
use Rattle.ds2_code.specs.declared.parts.StagedParts.{StagedParts}
use Rattle.ds2_code.specs.CodeUnit.{row_slot_settings, further_tables, opening_data}
use Rattle.ds2_code.specs.ValidCode.{IsValidProgram, IsValidStaged}
use Rattle.ds2_code.specs.Fitting.{AreOfSlots, AreSettingsOfSlots, IsDataOfCode}

-- the rows of a hash object's table fit its columns, and their number and so many more are a BIGINT
pub record AreRowsForHash (room : ℕ) (loaded : HashTable) (rows : List Row) : Type 0 where
  pub fit : IsTrue (list_all (λ row. row_fits row loaded.table.columns) rows)
  pub few : length rows + room < 2 ^ 63

-- likewise of the first of these tables, where a hash object names one
abbrev pub IsTableForHash : ℕ → Option HashTable → List (List Row) → Type 0
IsTableForHash room None tables = Unit {0}
IsTableForHash room (Some loaded) [] = Unit {0}
IsTableForHash room (Some loaded) (rows ∷ tables) = AreRowsForHash room loaded rows

-- likewise of the tables of hash objects, a table for each that names one
abbrev pub AreTablesForHashes : ℕ → List HashPart → List (List Row) → Type 0
AreTablesForHashes room [] tables = Unit {0}
AreTablesForHashes room (hash ∷ hashes) tables = IsTableForHash room hash.loaded tables × AreTablesForHashes room hashes (further_tables hash.loaded tables)

-- how many parameters the thread program has that a program reads from
abbrev pub stage_parameter_count : Option ProgramParts → ℕ
stage_parameter_count None = 0
stage_parameter_count (Some stage) = length stage.parameters

-- the data of valid code before its first unit fit, where the values given to its own parameters and the tables of its hash objects do
abbrev pub CodeOpeningFits : Type 0
CodeOpeningFits =
    (parts : StagedParts) (k : ℕ) (code : ProgramParts) (room : ℕ) (given : Row) (tables : List (List Row)) → IsValidStaged parts
    → slice_get (parts.program ∷ parts.stages) k ≡ Some code → room < 2 ^ 63 → AreOfSlots code.slots code.parameters given → AreTablesForHashes room code.hashes tables
    → IsDataOfCode code (slice_get parts.stages k) room (opening_data code given tables (stage_parameter_count (slice_get parts.stages k)))

-- what a row of a table sets, whatever slots its columns have, fits these
abbrev pub RowsSetWhatFits : Type 0
RowsSetWhatFits =
    (code : ProgramParts) (stage : Option ProgramParts) (slots : List ℕ) (columns : Columns) (row : Row) → IsValidProgram code stage
    → IsTrue (types_in_bounds columns) → IsTrue (row_fits row columns) → AreSettingsOfSlots code.slots (row_slot_settings code.slots slots row)
