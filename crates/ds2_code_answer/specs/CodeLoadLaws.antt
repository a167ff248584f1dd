-- What holds of the loads of code.
use Rattle.std.specs.Prelude.{◌≡◌, IsTrue, List, []}
use Rattle.std.specs.List.{AllByRecursion}
use Rattle.ds2_table.specs.Table.{Contents}
use Rattle.ds2_reading.specs.ReadingFits.{reading_fits_tables}
use Rattle.ds2_code.specs.declared.parts.ProgramParts.{ProgramParts}
use Rattle.ds2_code.specs.declared.parts.StagedParts.{StagedParts}
use Rattle.ds2_code.specs.ValidCode.{IsValidStaged}
use Rattle.ds2_code.specs.Scales.{AreSettingsScaled}
use Rattle.ds2_code_answer.specs.CodeLoads.{code_loads, code_reading}
use Rattle.ds2_code_answer.specs.CodeTables.{AreTablesOfCode}

-- what each load sets has the scales of its slots
abbrev pub LoadsAreScaled : Type 0
LoadsAreScaled = (code : ProgramParts) (tables : List Contents) → AllByRecursion (AreSettingsScaled code.slots) (code_loads code tables)

-- the reading statement of valid code that stands on no thread program fits tables of the code
abbrev pub ReadingsFitTables : Type 0
ReadingsFitTables =
    (parts : StagedParts) (tables : List Contents) → IsValidStaged parts → parts.stages ≡ [] → AreTablesOfCode parts tables
    → IsTrue (reading_fits_tables tables (code_reading parts.program))
