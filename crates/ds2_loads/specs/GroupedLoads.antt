-- The loads of a program in groups.
use Rattle.std.specs.Prelude.{◌≡◌, ℕ, List, [], ◌∷◌, ◌++◌, map}
use Rattle.ds2_table.specs.Loads.{KeyedLoad, groups}
use Rattle.ds2_table.specs.Table.{Contents}
use Rattle.ds2_code.specs.declared.parts.ProgramParts.{ProgramParts}
use Rattle.ds2_code.specs.Desk.{SlotSettings}
use Rattle.ds2_code_answer.specs.CodeLoads.{load_settings, code_reading, retains_columns, code_keyed_loads, code_loads}

-- what a load of a program over its tables sets
abbrev pub settings_of_code : ProgramParts → List Contents → KeyedLoad → SlotSettings
settings_of_code code tables load = load_settings code.slots (code_reading code) (retains_columns code.reading) tables load.load

-- what each load of each group at a grain sets
abbrev pub loads_in_groups : ℕ → ProgramParts → List Contents → List (List SlotSettings)
loads_in_groups grain code tables = map (map (settings_of_code code tables)) (groups grain (code_keyed_loads code tables))

-- the loads of groups, one group after the other
abbrev pub loads_of_groups : List (List SlotSettings) → List SlotSettings
loads_of_groups [] = []
loads_of_groups (group ∷ groups) = group ++ loads_of_groups groups

-- the groups of a program's loads, one after the other, are its loads in their order
abbrev pub GroupsAreAllLoads : Type 0
GroupsAreAllLoads = (grain : ℕ) (code : ProgramParts) (tables : List Contents) → loads_of_groups (loads_in_groups grain code tables) ≡ code_loads code tables
