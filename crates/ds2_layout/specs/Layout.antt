-- The layout of a program: a number, a slot, for each variable and flag, and for each output the slots of its columns.
use Rattle.std.specs.Prelude.{ℕ, if◌then◌else◌, List, [], ◌∷◌, ◌++◌, map, flat_map, position, unwrap_or, Option, Some, None}
use Rattle.ds2_value.specs.declared.ty.Ty.{Ty}
use Rattle.ds2_value.specs.declared.ty.Ty.TheVariants.{BigInt}
use Rattle.ds2_value.specs.declared.value.Value.{Value}
use Rattle.ds2_meaning.specs.declared.globals.OutputTable.{OutputTable}
use Rattle.ds2_meaning.specs.declared.globals.Variable.{Variable}
use Rattle.ds2_meaning.specs.declared.location.Global.{Global}
use Rattle.ds2_meaning.specs.declared.location.Global.TheVariants.{Named, First, Last, Present, Parameter}
use Rattle.ds2_meaning.specs.declared.readings.ByVariable.{ByVariable}
use Rattle.ds2_meaning.specs.declared.readings.Input.{Input}
use Rattle.ds2_meaning.specs.Location.{Home, Location, is_same_location, Storage, held}
use Rattle.ds2_meaning.specs.ProgramTree.{InstanceTree, UnitTree, data_vector, is_listed, sources}
use Rattle.ds2_meaning.specs.Reading.{inputs_of, bys_of, is_column}
use Rattle.ds2_layout.specs.declared.slot.Layout.{Layout}
use Rattle.ds2_layout.specs.declared.slot.LayoutSlot.{LayoutSlot}
use Rattle.ds2_layout.specs.declared.slot.SlotRole.{SlotRole}
use Rattle.ds2_layout.specs.declared.slot.SlotRole.TheVariants.{Cleared, Kept, Column, Flag}

-- ---- roles

-- what a slot of the vector is for: a column of the reading statement, a retained variable, else one that `run` sets to null
abbrev pub vector_role : UnitTree → List ℕ → SlotRole
vector_role p name = if is_column p.reading name then Column else if is_listed p.retained name then Kept else Cleared

-- ---- slots

-- a slot for a global of a program, or of the instance of this name
abbrev pub slot_for : Home → Global → Ty → SlotRole → LayoutSlot
slot_for home global ty role = record { instance = home; global = global; ty = ty; role = role }

-- the slots of the vector, in its order: declared variables, then columns
abbrev pub vector_slots : UnitTree → List LayoutSlot
vector_slots p = map (λ (v : Variable). slot_for None (Named v.name) v.ty (vector_role p v.name)) (data_vector p)

-- the slots of the parameters of a thread program, which `run` keeps
abbrev pub parameter_slots : UnitTree → List LayoutSlot
parameter_slots p = map (λ (v : Variable). slot_for None (Parameter v.name) v.ty Kept) p.parameters

-- the slot of a flag, a BIGINT
abbrev pub flag_slot : Global → LayoutSlot
flag_slot global = slot_for None global BigInt Flag

-- the slot of the `in=` flag of an input, where it has one
abbrev pub input_flag_slots : Input → List LayoutSlot
input_flag_slots i = of_present i.present
  where
    of_present : Option (List ℕ) → List LayoutSlot
    of_present None = []
    of_present (Some name) = flag_slot (Present name) ∷ []

-- the slots of `first.v` and `last.v`
abbrev pub by_flag_slots : ByVariable → List LayoutSlot
by_flag_slots b = flag_slot (First b.name) ∷ flag_slot (Last b.name) ∷ []

-- the slots of the variables of an instance, which `run` keeps
abbrev pub instance_slots : InstanceTree → List LayoutSlot
instance_slots i = map (λ (v : Variable). slot_for (Some i.name) (Named v.name) v.ty Kept) i.variables

-- the slots of a program, in order: the vector, the parameters, the `in=` flags, two flags for each BY variable, and behind the
-- program's own the variables of its instances
abbrev pub program_slots : UnitTree → List LayoutSlot
program_slots p =
    vector_slots p
    ++ parameter_slots p
    ++ flat_map input_flag_slots (inputs_of p.reading)
    ++ flat_map by_flag_slots (bys_of p.reading)
    ++ flat_map instance_slots p.instances

-- ---- projections

-- the location that a slot is for
abbrev pub location_of_slot : LayoutSlot → Location
location_of_slot slot = record { home = slot.instance; global = slot.global }

-- the number of the slot for a location, where there is one
abbrev pub slot_at : List LayoutSlot → Location → Option ℕ
slot_at slots at = position (λ (slot : LayoutSlot). is_same_location (location_of_slot slot) at) slots

-- the slot of a variable of the vector; each column of a typed output has one
abbrev pub source_slot : List LayoutSlot → List ℕ → ℕ
source_slot slots name = unwrap_or (slot_at slots (record { home = None; global = Named name })) 0

-- for each column of an output the slot of its variable
abbrev pub projection : List LayoutSlot → OutputTable → List ℕ
projection slots output = map (source_slot slots) (sources output)

-- the layout of a program
abbrev pub layout_of : UnitTree → Layout
layout_of p = record { slots = program_slots p; projections = map (projection (program_slots p)) p.outputs }

-- ---- what slots hold

-- the values of the slots, in order, where each location holds this
abbrev pub values_in_slots : Layout → Storage → List Value
values_in_slots layout kept = map (λ (slot : LayoutSlot). held (kept (location_of_slot slot))) layout.slots
