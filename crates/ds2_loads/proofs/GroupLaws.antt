-- The groups of a program's loads, one after the other.
use Rattle.std.proofs.Common.{◌≡◌, ℕ, List, [], ◌∷◌, ◌++◌, map, refl, sym, ap, ◌∙◌}
use Rattle.std.proofs.lemmas.List.{map-append}
use Rattle.ds2_table.specs.LoadLaws.{GroupsDivideLoads, LoadsStandInByOrder, one_after_another}
use Rattle.ds2_table.specs.Loads.{KeyedLoad, groups}
use Rattle.ds2_table.specs.Table.{Contents}
use Rattle.ds2_reading.specs.ReadingKeys.{directions_of, keys_of_reading}
use Rattle.ds2_reading.specs.declared.reading.Reading.{Reading}
use Rattle.ds2_code.specs.declared.parts.ReadingPart.{ReadingPart}
use Rattle.ds2_code.specs.declared.parts.ReadingPart.TheVariants as reading
use Rattle.ds2_code.specs.Desk.{SlotSettings}
use Rattle.ds2_code_answer.specs.CodeLoads.{reading_over, keyed_loads_over, code_keyed_loads}
use Rattle.ds2_code_answer.specs.CodeTables.{first_read_table}
use Rattle.ds2_loads.specs.GroupedLoads.{GroupsAreAllLoads, settings_of_code, loads_of_groups}
use Rattle.ds2_loads.proofs.OpenCursors.{have_table_keys}

all_of_groups : (f : KeyedLoad → SlotSettings) (gs : List (List KeyedLoad)) → loads_of_groups (map (map f) gs) ≡ map f (one_after_another gs)
all_of_groups f [] = refl
all_of_groups f (group ∷ gs) = ap (λ rest. map f group ++ rest) (all_of_groups f gs) ∙ sym (map-append f group (one_after_another gs))

module _ (ordered : LoadsStandInByOrder) (divide : GroupsDivideLoads) where
  divided : (grain number : ℕ) (part : ReadingPart) (tables : List Contents) → one_after_another (groups grain (keyed_loads_over number part tables)) ≡ keyed_loads_over number part tables
  divided grain number (reading.Set reads bys) tables =
      let statement : Reading = reading_over number reads bys in
      let keys = keys_of_reading tables statement in
      let here = ordered (directions_of statement.bys) keys (have_table_keys tables statement.bys statement.tables) in
      divide (directions_of statement.bys) grain (keyed_loads_over number (reading.Set reads bys) tables) here.0
  divided grain number (reading.Merge reads bys retains) tables =
      let statement : Reading = reading_over number reads bys in
      let keys = keys_of_reading tables statement in
      let here = ordered (directions_of statement.bys) keys (have_table_keys tables statement.bys statement.tables) in
      divide (directions_of statement.bys) grain (keyed_loads_over number (reading.Merge reads bys retains) tables) here.1
  divided grain number (reading.Stage threads into) tables = divide [] grain [] tt
  divided grain number reading.Once tables = divide [] grain (keyed_loads_over number reading.Once tables) (refl, tt)
  divided grain number reading.Nothing tables = divide [] grain [] tt

  pub groups_are_all_loads : GroupsAreAllLoads
  groups_are_all_loads grain code tables =
      all_of_groups (settings_of_code code tables) (groups grain (code_keyed_loads code tables))
      ∙ ap (map (settings_of_code code tables)) (divided grain (first_read_table code) code.reading tables)
