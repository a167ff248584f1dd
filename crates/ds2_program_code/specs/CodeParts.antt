-- The parts of a program's code beside its constants, methods and instructions: slots, hash objects, iterators, reading and outputs.
use Rattle.std.specs.Prelude.{ℕ, bytes_eq, codes, List, ◌++◌, map, flat_map, position, unwrap_or, None, Some}
use Rattle.std.specs.Option.{option_map}
use Rattle.ds2_value.specs.Row.{Columns}
use Rattle.ds2_value.specs.declared.schema.Column.{Column}
use Rattle.ds2_value.specs.declared.ty.Ty.{Ty}
use Rattle.ds2_meaning.specs.declared.globals.OutputColumn.{OutputColumn}
use Rattle.ds2_meaning.specs.declared.globals.OutputTable.{OutputTable}
use Rattle.ds2_meaning.specs.declared.globals.Variable.{Variable}
use Rattle.ds2_meaning.specs.declared.hashes.DeclaredHash.{DeclaredHash}
use Rattle.ds2_meaning.specs.declared.hashes.DeclaredIterator.{DeclaredIterator}
use Rattle.ds2_meaning.specs.declared.hashes.HashVariable.{HashVariable}
use Rattle.ds2_meaning.specs.declared.hashes.LoadedTable.{LoadedTable}
use Rattle.ds2_meaning.specs.declared.location.Global.{Global}
use Rattle.ds2_meaning.specs.declared.location.Global.TheVariants.{Named, First, Last, Present}
use Rattle.ds2_meaning.specs.declared.readings.ByVariable.{ByVariable}
use Rattle.ds2_meaning.specs.declared.readings.Input.{Input}
use Rattle.ds2_meaning.specs.declared.readings.MentionedTable.{MentionedTable}
use Rattle.ds2_meaning.specs.declared.readings.Reading.{Reading}
use Rattle.ds2_meaning.specs.declared.readings.Reading.TheVariants as read
use Rattle.ds2_meaning.specs.HashObjects.{object_at}
use Rattle.ds2_meaning.specs.Location.{Home}
use Rattle.ds2_meaning.specs.ProgramMeaning.{global_name}
use Rattle.ds2_meaning.specs.ProgramTree.{BodyTree, InstanceTree, UnitTree}
use Rattle.ds2_layout.specs.declared.slot.LayoutSlot.{LayoutSlot}
use Rattle.ds2_layout.specs.Layout.{program_slots, source_slot}
use Rattle.ds2_code.specs.declared.parts.ByPart.{ByPart}
use Rattle.ds2_code.specs.declared.parts.HashPart.{HashPart}
use Rattle.ds2_code.specs.declared.parts.HashTable.{HashTable}
use Rattle.ds2_code.specs.declared.parts.OutputPart.{OutputPart}
use Rattle.ds2_code.specs.declared.parts.ReadPart.{ReadPart}
use Rattle.ds2_code.specs.declared.parts.ReadingPart.{ReadingPart}
use Rattle.ds2_code.specs.declared.parts.ReadingPart.TheVariants as part
use Rattle.ds2_code.specs.declared.parts.Slot.{Slot}
use Rattle.ds2_code.specs.declared.parts.SlotRole.TheVariants.{Kept}
use Rattle.ds2_code.specs.declared.parts.TableReference.{TableReference}
use Rattle.ds2_program_code.specs.KeptTypes.{all_types_kept}
use Rattle.ds2_program_code.specs.PlacedProgram.{number_of_location, slot_locations, hash_locations}
use Rattle.ds2_program_code.specs.PlacementLaws.{code_role}

-- ---- slots

-- the slot of a global of a home; each global of a typed program has one
abbrev pub slot_of_global : UnitTree → Home → Global → ℕ
slot_of_global p home global = unwrap_or (number_of_location (slot_locations p) (record { home = home; global = global })) 0

-- a slot of the layout in code: its name is the variable's, of a variable of an instance the instance's
abbrev pub layout_slot : LayoutSlot → Slot
layout_slot slot = record { name = unwrap_or slot.instance (global_name slot.global); ty = slot.ty; role = code_role slot.role }

-- the types of what a system method keeps in slots of its own: its locals, and behind them the values that its code keeps
abbrev pub own_types : BodyTree → List Ty
own_types body = map (λ (v : Variable). v.ty) body.locals ++ all_types_kept body.statements

-- the slots of its own of the system method of this name, which `run` keeps
abbrev pub slots_of_body : List ℕ → BodyTree → List Slot
slots_of_body name body = map (λ (ty : Ty). record { name = name; ty = ty; role = Kept }) (own_types body)

-- the slots of a program: those of its layout, and behind them those of its system methods
abbrev pub code_slots : UnitTree → List Slot
code_slots p = map layout_slot (program_slots p) ++ (slots_of_body (codes "init") p.init ++ (slots_of_body (codes "run") p.run ++ slots_of_body (codes "term") p.term))

-- ---- tables

-- a table that code names, with its columns
abbrev pub table_part : MentionedTable → Columns → TableReference
table_part table columns = record { name = table.name; maker = table.maker; columns = columns }

-- ---- hash objects

-- the slots of variables of a hash object of a home
abbrev pub variable_slots : UnitTree → Home → List HashVariable → List ℕ
variable_slots p home variables = map (λ (v : HashVariable). slot_of_global p home v.global) variables

-- for each variable of a hash object the number of the column of its name
abbrev pub columns_of_variables : Columns → List HashVariable → List ℕ
columns_of_variables columns variables = map (λ (v : HashVariable). unwrap_or (position (λ (c : Column). bytes_eq c.name (global_name v.global)) columns) 0) variables

-- the table with which a hash object begins
abbrev pub hash_table_part : DeclaredHash → LoadedTable → HashTable
hash_table_part hash loaded = record {
  table = table_part loaded.table loaded.columns;
  key_columns = columns_of_variables loaded.columns hash.key_variables;
  data_columns = columns_of_variables loaded.columns hash.data_variables;
}

-- a hash object of a home in code
abbrev pub hash_part : UnitTree → Home → DeclaredHash → HashPart
hash_part p home hash = record {
  key_slots = variable_slots p home hash.key_variables;
  data_slots = variable_slots p home hash.data_variables;
  loaded = option_map (hash_table_part hash) hash.loaded;
}

-- the hash objects of a program, its own before those of its instances
abbrev pub hash_parts : UnitTree → List HashPart
hash_parts p = map (hash_part p None) p.objects.hashes ++ flat_map (λ (i : InstanceTree). map (hash_part p (Some i.name)) i.objects.hashes) p.instances

-- the number of the hash object that an iterator of a home walks
abbrev pub walked_hash : UnitTree → Home → DeclaredIterator → ℕ
walked_hash p home iterator = unwrap_or (number_of_location (hash_locations p) (object_at home iterator.hash)) 0

-- the iterators of a program, its own before those of its instances
abbrev pub iterator_parts : UnitTree → List ℕ
iterator_parts p = map (walked_hash p None) p.objects.iterators ++ flat_map (λ (i : InstanceTree). map (walked_hash p (Some i.name)) i.objects.iterators) p.instances

-- ---- reading

-- a table of a reading statement: the slot of its flag, where it has one, and of each column
abbrev pub input_part : UnitTree → Input → ReadPart
input_part p input = record {
  table = table_part input.table input.columns;
  present = option_map (λ (name : List ℕ). slot_of_global p None (Present name)) input.present;
  slots = map (λ (c : Column). slot_of_global p None (Named c.name)) input.columns;
}

-- a BY variable: its slot and those of its flags
abbrev pub by_variable_part : UnitTree → ByVariable → ByPart
by_variable_part p by = record {
  slot = slot_of_global p None (Named by.name);
  is_descending = by.is_descending;
  first = slot_of_global p None (First by.name);
  last = slot_of_global p None (Last by.name);
}

-- a reading statement; of one that reads from a thread program the slots of that one's columns
abbrev pub reading_part : UnitTree → Reading → ReadingPart
reading_part p read.Nothing = part.Nothing
reading_part p read.Once = part.Once
reading_part p (read.Set inputs bys) = part.Set (map (input_part p) inputs) (map (by_variable_part p) bys)
reading_part p (read.Merge inputs bys retains) = part.Merge (map (input_part p) inputs) (map (by_variable_part p) bys) retains
reading_part p (read.From instance workers columns) = part.Stage workers (map (λ (c : Column). slot_of_global p None (Named c.name)) columns)

-- ---- outputs

-- an output: the name of each column and the slot of its variable
abbrev pub output_part : UnitTree → OutputTable → OutputPart
output_part p output = record {
  name = output.name;
  overwrites = output.overwrites;
  columns = map (λ (c : OutputColumn). (c.name, source_slot (program_slots p) c.source)) output.columns;
}
