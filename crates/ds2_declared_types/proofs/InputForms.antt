-- Columns that are found by their names, one by one.
use Rattle.std.proofs.Common.{◌≡◌, ℕ, ◌+◌, ◌<◌, Bool, true, false, if◌then◌else◌, bytes_eq, List, [], ◌∷◌, ◌++◌, length, get_or, drop, map, Option, Some, None, refl, sym, ap, ◌∙◌}
use Rattle.std.proofs.lemmas.List.{append_assoc, at_drop_more, map-append}
use Rattle.std.specs.Option.{option_or}
use Rattle.ds2_base.specs.declared.place.Place.{Place}
use Rattle.ds2_tree.specs.declared.readings.Input.{Input}
use Rattle.ds2_value.specs.Row.{Columns}
use Rattle.ds2_value.specs.declared.schema.Column.{Column}
use Rattle.ds2_value.specs.declared.ty.Ty.{Ty}
use Rattle.ds2_names.specs.SourceUnit.{TableColumns, spelled_name}
use Rattle.ds2_scope.proofs.TableLemmas.{or_none}
use Rattle.ds2_elaboration.specs.SourceTypes.{ColumnTyping, type_of_column, with_table, joined_over, clash_at_table, clashing_table}
use Rattle.ds2_declared_types.specs.InputColumns.{ColumnInTable, column_at, column_found, type_if_named, joined_columns, clash_of_columns}
use Rattle.ds2_declared_types.specs.declared.input_types.InputTypes.{InputTypes}

-- one column more of a table
pub one_more_type : (x : Option Ty) (c : Column) (columns : Columns) (name : List ℕ)
    → option_or (option_or x (type_if_named name c)) (type_of_column name columns) ≡ option_or x (type_of_column name (c ∷ columns))
one_more_type x c columns name = by (bytes_eq c.name name) x
  where
    by : (b : Bool) (y : Option Ty)
        → option_or (option_or y (if b then Some c.ty else None)) (type_of_column name columns) ≡ option_or y (if b then Some c.ty else type_of_column name columns)
    by true None = refl
    by true (Some ty) = refl
    by false y = ap (λ (z : Option Ty). option_or z (type_of_column name columns)) (or_none y)

module _ (tables : TableColumns) (name : List ℕ) where
  -- one table more
  pub one_more_found : (found : List InputTypes) (own : InputTypes) (inputs : List Input) (k : ℕ) (i : Input) → k < length inputs → i ≡ get_or inputs k i
      → column_found name own ≡ column_at tables name i
      → map (column_found name) (found ++ own ∷ []) ++ map (column_at tables name) (drop (k + 1) inputs) ≡ map (column_found name) found ++ map (column_at tables name) (drop k inputs)
  one_more_found found own inputs k i l at e =
      let before = map (column_found name) found in
      let rest = map (column_at tables name) (drop (k + 1) inputs) in
      ap (λ (x : List ColumnInTable). x ++ rest) (map-append (column_found name) found (own ∷ [])) ∙ append_assoc before (column_found name own ∷ []) rest
      ∙ ap (λ (c : ColumnInTable). before ++ (c ∷ rest)) e
      ∙ sym
      (at_drop_more (λ (x : List Input). before ++ map (column_at tables name) x) inputs k i l ∙ ap (λ (j : Input). before ++ (column_at tables name j ∷ rest)) (sym at))

  module _ (declared : Option Ty) where
    -- tables are joined as what is found in them
    pub joined_as : (typing : ColumnTyping) (inputs : List Input) → joined_columns declared typing (map (column_at tables name) inputs) ≡ joined_over tables declared name typing inputs
    joined_as typing [] = refl
    joined_as typing (i ∷ inputs) = joined_as (with_table declared typing (type_of_column name (tables (spelled_name i.table)))) inputs

    -- and clash where that does
    pub clashing_as : (typing : ColumnTyping) (inputs : List Input) → clash_of_columns declared typing (map (column_at tables name) inputs) ≡ clashing_table tables declared name typing inputs
    clashing_as typing [] = refl
    clashing_as typing (i ∷ inputs) =
        let behind = with_table declared typing (type_of_column name (tables (spelled_name i.table))) in
        ap (λ (l : List Place). clash_at_table i.table.place typing behind ++ l) (clashing_as behind inputs)
