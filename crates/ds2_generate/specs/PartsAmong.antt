-- Parts of a program's code, where these are the slots of its layout.
use Rattle.std.specs.Prelude.{ℕ, List, ◌++◌, map, flat_map, unwrap_or, Some, None}
use Rattle.std.specs.Option.{option_map}
use Rattle.ds2_value.specs.declared.schema.Column.{Column}
use Rattle.ds2_meaning.specs.declared.hashes.DeclaredHash.{DeclaredHash}
use Rattle.ds2_meaning.specs.declared.hashes.HashVariable.{HashVariable}
use Rattle.ds2_meaning.specs.declared.location.Global.TheVariants.{Named, First, Last, Present}
use Rattle.ds2_meaning.specs.declared.readings.ByVariable.{ByVariable}
use Rattle.ds2_meaning.specs.declared.readings.Input.{Input}
use Rattle.ds2_meaning.specs.declared.readings.Reading.{Reading}
use Rattle.ds2_meaning.specs.declared.readings.Reading.TheVariants as read
use Rattle.ds2_meaning.specs.Location.{Home, Location}
use Rattle.ds2_meaning.specs.ProgramTree.{InstanceTree, UnitTree}
use Rattle.ds2_layout.specs.declared.slot.LayoutSlot.{LayoutSlot}
use Rattle.ds2_layout.specs.Layout.{location_of_slot}
use Rattle.ds2_code.specs.declared.parts.ByPart.{ByPart}
use Rattle.ds2_code.specs.declared.parts.HashPart.{HashPart}
use Rattle.ds2_code.specs.declared.parts.ReadPart.{ReadPart}
use Rattle.ds2_code.specs.declared.parts.ReadingPart.{ReadingPart}
use Rattle.ds2_code.specs.declared.parts.ReadingPart.TheVariants as part
use Rattle.ds2_program_code.specs.PlacedProgram.{number_of_location}
use Rattle.ds2_program_code.specs.CodeParts.{table_part, hash_table_part}

-- the slot of a location, 0 where it has none
abbrev pub slot_among : List LayoutSlot → Location → ℕ
slot_among slots at = unwrap_or (number_of_location (map location_of_slot slots) at) 0

-- the slots of variables of a hash object of a home
abbrev pub variable_slots_among : List LayoutSlot → Home → List HashVariable → List ℕ
variable_slots_among slots home variables = map (λ (v : HashVariable). slot_among slots (record { home = home; global = v.global })) variables

-- a hash object of a home
abbrev pub hash_part_among : List LayoutSlot → Home → DeclaredHash → HashPart
hash_part_among slots home hash = record {
  key_slots = variable_slots_among slots home hash.key_variables;
  data_slots = variable_slots_among slots home hash.data_variables;
  loaded = option_map (hash_table_part hash) hash.loaded;
}

-- the hash objects of a program
abbrev pub hash_parts_among : List LayoutSlot → UnitTree → List HashPart
hash_parts_among slots p = map (hash_part_among slots None) p.objects.hashes ++ flat_map (λ (i : InstanceTree). map (hash_part_among slots (Some i.name)) i.objects.hashes) p.instances

-- a table of a reading statement
abbrev pub input_part_among : List LayoutSlot → Input → ReadPart
input_part_among slots input = record {
  table = table_part input.table input.columns;
  present = option_map (λ (name : List ℕ). slot_among slots (record { home = None; global = Present name })) input.present;
  slots = map (λ (c : Column). slot_among slots (record { home = None; global = Named c.name })) input.columns;
}

-- a BY variable
abbrev pub by_part_among : List LayoutSlot → ByVariable → ByPart
by_part_among slots by = record {
  slot = slot_among slots (record { home = None; global = Named by.name });
  is_descending = by.is_descending;
  first = slot_among slots (record { home = None; global = First by.name });
  last = slot_among slots (record { home = None; global = Last by.name });
}

-- a reading statement
abbrev pub reading_part_among : List LayoutSlot → Reading → ReadingPart
reading_part_among slots read.Nothing = part.Nothing
reading_part_among slots read.Once = part.Once
reading_part_among slots (read.Set inputs bys) = part.Set (map (input_part_among slots) inputs) (map (by_part_among slots) bys)
reading_part_among slots (read.Merge inputs bys retains) = part.Merge (map (input_part_among slots) inputs) (map (by_part_among slots) bys) retains
reading_part_among slots (read.From instance workers columns) = part.Stage workers (map (λ (c : Column). slot_among slots (record { home = None; global = Named c.name })) columns)
