-- What a unit reads from, as the code holds it.
use Rattle.std.specs.Prelude.{◌≡◌}
use Rattle.std.specs.Option.{option_map}
use Rattle.ds2_token.specs.declared.token.Token.{Token}
use Rattle.ds2_names.specs.SourceUnit.{columns_stored, stage_token, UnitSource}
use Rattle.ds2_elaboration.specs.SourceTypes.{program_inputs, unit_names, unit_stage}
use Rattle.ds2_elaboration.specs.UnitsBefore.{typed_stage_columns, UnitsBefore}
use Rattle.ds2_declared_types.specs.InputColumns.{FindColumns, HasTypes}
use Rattle.ds2_declared_types.specs.declared.columns.ReadFrom.{ReadFrom}

-- what a unit behind these units reads from: the tables of its reading statement, in which the columns of each name are found, or by the instance behind `set from` the rows of the
-- thread program that it is one of
pub record ReadsAsUnit (before : UnitsBefore) (u : UnitSource) (from : ReadFrom) : Type 0 where
  pub inputs : FindColumns (columns_stored from.tables.now) (program_inputs (columns_stored from.tables.now) before u) from.inputs.now
  pub stage : from.stage ≡ option_map (λ (t : Token). t.place) (stage_token (unit_names (columns_stored from.tables.now) before u).reading)
  pub rows : from.rows.now ≡ typed_stage_columns (unit_stage (columns_stored from.tables.now) before u)
  pub row_types : HasTypes from.row_types.now from.rows.now
