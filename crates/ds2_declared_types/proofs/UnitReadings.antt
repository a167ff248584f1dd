-- What a unit reads from is what the code holds of it.
use Rattle.std.proofs.Common.{◌≡◌, ℕ, List, [], ◌∷◌, ◌++◌, map, Option, Some, None, refl, ap, ◌∙◌}
use Rattle.std.specs.Prelude.{nat_eq}
use Rattle.std.specs.Cmp.Lexicographic.{pointwise}
use Rattle.std.specs.HashMap.{get}
use Rattle.std.specs.Option.{option_map}
use Rattle.ds2_base.specs.declared.place.Place.{Place}
use Rattle.ds2_token.specs.declared.token.Token.{Token}
use Rattle.ds2_value.specs.declared.ty.Ty.{Ty}
use Rattle.ds2_names.specs.NameRules.{from_each}
use Rattle.ds2_names.specs.SourceUnit.{PlacedName, TableColumns, columns_stored, stage_token, UnitSource}
use Rattle.ds2_elaboration.specs.SourceTypes.{ColumnTyping, Absent, clash_at_stage, clashing_at, clashing_table, column_typing, column_variables, joined_type, program_inputs, stage_typing, type_of_column, unit_names, unit_stage, unjoined_columns, with_table}
use Rattle.ds2_elaboration.specs.UnitsBefore.{UnitsBefore, typed_stage_columns}
use Rattle.ds2_declared_types.specs.declared.columns.ReadFrom.{ReadFrom}
use Rattle.ds2_declared_types.specs.InputColumns.{clash_of_columns, joined_columns}
use Rattle.ds2_declared_types.specs.Joins.{clash_at_rows, clashes_over, column_over, column_type_over, unjoined_over}
use Rattle.ds2_declared_types.specs.UnitReading.{ReadsAsUnit}
use Rattle.ds2_declared_types.proofs.InputForms.{clashing_as, joined_as}

-- the instance behind `set from`
at_stage : (tables : TableColumns) (before : UnitsBefore) (u : UnitSource) (declared : Option Ty) (name : List ℕ) (stage : Option Token)
    → clash_at_rows (option_map (λ (t : Token). t.place) stage) (stage_typing tables before u declared name) ≡ clash_at_stage tables before u declared name stage
at_stage tables before u declared name None = refl
at_stage tables before u declared name (Some instance) = refl

module _ (before : UnitsBefore) (u : UnitSource) (from : ReadFrom) (h : ReadsAsUnit before u from) where
  abbrev pub tables : TableColumns
  tables = columns_stored from.tables.now

  -- the type of a column of the rows of the thread program
  row_is : (name : List ℕ) → get (pointwise nat_eq) from.row_types.now name ≡ type_of_column name (typed_stage_columns (unit_stage tables before u))
  row_is name = h.row_types name ∙ ap (type_of_column name) h.rows

  -- the first place at which a column of a name breaks a rule
  pub clash_is : (declared : Option Ty) (name : List ℕ) → clashes_over from.inputs.now from.stage from.row_types.now declared name ≡ clashing_at tables before u declared name
  clash_is declared name =
      let typing = stage_typing tables before u declared name in
      (λ i. clash_at_rows (h.stage i) (with_table declared Absent (row_is name i)) ++ clash_of_columns declared (with_table declared Absent (row_is name i)) (h.inputs name i))
      ∙ ap (λ (l : List Place). clash_at_rows (option_map (λ (t : Token). t.place) (stage_token (unit_names tables before u).reading)) typing ++ l)
      (clashing_as tables name declared typing (program_inputs tables before u))
      ∙ ap (λ (l : List Place). l ++ clashing_table tables declared name typing (program_inputs tables before u))
      (at_stage tables before u declared name (stage_token (unit_names tables before u).reading))

  -- what is known of the type of a column
  type_is : (declared : Option Ty) (name : List ℕ) → column_type_over from.inputs.now from.stage from.row_types.now declared name ≡ column_typing tables before u declared name
  type_is declared name =
      (λ i. joined_columns declared (with_table declared Absent (row_is name i)) (h.inputs name i))
      ∙ joined_as tables name declared (stage_typing tables before u declared name) (program_inputs tables before u)

  columns_typed : (columns : List PlacedName) → map (column_over from.inputs.now from.stage from.row_types.now) columns
      ≡ map (λ (n : PlacedName). record { name = n.name; ty = joined_type (column_typing tables before u None n.name) }) columns
  columns_typed [] = refl
  columns_typed (n ∷ columns) = λ i. record { name = n.name; ty = joined_type (type_is None n.name i) } ∷ columns_typed columns i

  -- columns that are not declared, with their types
  pub columns_are : (columns : List PlacedName) → columns ≡ (unit_names tables before u).columns
      → map (column_over from.inputs.now from.stage from.row_types.now) columns ≡ column_variables tables before u
  columns_are columns e =
      columns_typed columns ∙ ap (map (λ (n : PlacedName). record { name = n.name; ty = joined_type (column_typing tables before u None n.name) })) e

  unjoined_each : (columns : List PlacedName) → from_each (unjoined_over from.inputs.now from.stage from.row_types.now) columns
      ≡ from_each (λ (n : PlacedName). map (λ (place : Place). record { name = n.name; place = place }) (clashing_at tables before u None n.name)) columns
  unjoined_each [] = refl
  unjoined_each (n ∷ columns) = λ i. map (λ (place : Place). record { name = n.name; place = place }) (clash_is None n.name i) ++ unjoined_each columns i

  -- columns that are not declared and do not join
  pub unjoined_are : (columns : List PlacedName) → columns ≡ (unit_names tables before u).columns
      → from_each (unjoined_over from.inputs.now from.stage from.row_types.now) columns ≡ unjoined_columns tables before u
  unjoined_are columns e =
      unjoined_each columns
      ∙ ap (from_each (λ (n : PlacedName). map (λ (place : Place). record { name = n.name; place = place }) (clashing_at tables before u None n.name))) e
