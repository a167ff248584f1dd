-- The loads of reading statements stand in BY order, and their groups are their loads.
use Rattle.std.proofs.Common.{◌≡◌, List, [], ◌∷◌, map, length, sym, ◌∙◌, arith}
use Rattle.std.proofs.lemmas.List.{length-map}
use Rattle.ds2_value.specs.Row.{Row, Columns}
use Rattle.ds2_table.specs.LoadLaws.{AreKeys, HaveTableKeys, LoadsStandInByOrder, GroupsDivideLoads}
use Rattle.ds2_meaning.specs.declared.readings.ByVariable.{ByVariable}
use Rattle.ds2_meaning.specs.declared.readings.Input.{Input}
use Rattle.ds2_meaning.specs.declared.readings.Reading.TheVariants.{Nothing, Once, Set, Merge, From}
use Rattle.ds2_meaning.specs.Reading.{InputTables, value_under, bys_of, key_in, keys_in, descending_of, keyed_loads}
use Rattle.ds2_meaning.specs.ReadingLaws.{ReadingsStandInByOrder, GroupsDivideReadings}

one_each : (bys : List ByVariable) (columns : Columns) (row : Row) → length (key_in bys columns row) ≡ length (descending_of bys)
one_each bys columns row =
    length-map bys (λ (by : ByVariable). value_under by.name columns row) ∙ sym (length-map bys (λ (by : ByVariable). by.is_descending))

row_keys : (bys : List ByVariable) (columns : Columns) (rows : List Row) → AreKeys (descending_of bys) (map (key_in bys columns) rows)
row_keys bys columns [] = tt
row_keys bys columns (row ∷ rows) = (one_each bys columns row, row_keys bys columns rows)

table_keys : (bys : List ByVariable) (inputs : List Input) (tables : InputTables) → HaveTableKeys (descending_of bys) (keys_in bys inputs tables)
table_keys bys [] tables = tt
table_keys bys (input ∷ inputs) [] = tt
table_keys bys (input ∷ inputs) (rows ∷ tables) = (row_keys bys input.columns rows, table_keys bys inputs tables)

pub readings_stand_in_by_order : LoadsStandInByOrder → ReadingsStandInByOrder
readings_stand_in_by_order law Nothing tables = tt
readings_stand_in_by_order law Once tables = (omega arith, tt)
readings_stand_in_by_order law (Set inputs bys) tables = (law (descending_of bys) (keys_in bys inputs tables) (table_keys bys inputs tables)).0
readings_stand_in_by_order law (Merge inputs bys retains) tables = (law (descending_of bys) (keys_in bys inputs tables) (table_keys bys inputs tables)).1
readings_stand_in_by_order law (From instance workers columns) tables = tt

pub groups_divide_readings : GroupsDivideLoads → ReadingsStandInByOrder → GroupsDivideReadings
groups_divide_readings law in_order reading tables p = law (descending_of (bys_of reading)) p (keyed_loads reading tables) (in_order reading tables)
