-- A unit with its names and what its reading statement reads, as the code holds them.
use Rattle.std.specs.Prelude.{◌≡◌, length, option_copied}
use Rattle.std.specs.Option.{option_map}
use Rattle.ds2_meaning.specs.View.{typed_thread_program}
use Rattle.ds2_names.specs.SourceUnit.{SourceNames, TableColumns, UnitSource, columns_stored, source_instances, tables_of_reading}
use Rattle.ds2_elaboration.specs.SourceTypes.{program_variables, unit_names, unit_stage}
use Rattle.ds2_elaboration.specs.UnitsBefore.{UnitsBefore, typed_stage_columns}
use Rattle.ds2_declared_types.specs.InputColumns.{FindColumns, HasTypes}
use Rattle.ds2_declared_types.specs.UnitReading.{ReadsAsUnit}
use Rattle.ds2_scope.specs.CodeUnits.{instances_in_source, unit_source}
use Rattle.ds2_scope.specs.UnitNames.{NamesAre, reading_in_unit}
use Rattle.ds2_program_types.specs.declared.at_hand.UnitAtHand.{UnitAtHand}
use Rattle.ds2_program_types.specs.declared.at_hand.UnitReading.{UnitReading}

-- what a unit behind these units declares and reads
pub record IsReadingOf (tables : TableColumns) (before : UnitsBefore) (u : UnitSource) (r : UnitReading) : Type 0 where
  pub instances : instances_in_source r.instances ≡ source_instances u.globals
  pub reading : option_copied r.reading ≡ reading_in_unit u
  pub inputs : FindColumns tables (tables_of_reading (reading_in_unit u)) r.inputs
  pub stage : option_map typed_thread_program (option_copied r.stage) ≡ unit_stage tables before u
  pub rows : r.rows ≡ typed_stage_columns (unit_stage tables before u)
  pub row_types : HasTypes r.row_types r.rows
  pub declared : r.declared ≡ length (program_variables u)

-- the columns of the tables that a unit may read
abbrev pub columns_at_hand : UnitAtHand → TableColumns
columns_at_hand x = columns_stored x.from.tables.now

-- the unit as it stands in the source
abbrev pub source_at_hand : UnitAtHand → UnitSource
source_at_hand x = unit_source x.unit

-- what it gives names to behind these units
abbrev pub names_at_hand : UnitsBefore → UnitAtHand → SourceNames
names_at_hand before x = unit_names (columns_at_hand x) before (source_at_hand x)

-- a unit behind these units has these names and reads this
pub record IsAtHand (before : UnitsBefore) (x : UnitAtHand) : Type 0 where
  pub names : NamesAre x.names.now (names_at_hand before x)
  pub columns : x.columns.now ≡ (names_at_hand before x).columns
  pub instances : instances_in_source x.instances.now ≡ (names_at_hand before x).instances
  pub reads : ReadsAsUnit before (source_at_hand x) x.from
