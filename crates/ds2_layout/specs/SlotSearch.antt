-- What a layout looks up by hashing: whether a name is one of a set, and the number of a name.
use Rattle.std.specs.Prelude.{ℕ, Bool, if◌then◌else◌, List, map, unwrap_or, Option, Some, None}
use Rattle.ds2_meaning.specs.declared.globals.OutputTable.{OutputTable}
use Rattle.ds2_meaning.specs.declared.globals.Variable.{Variable}
use Rattle.ds2_meaning.specs.declared.location.Global.TheVariants.{Named}
use Rattle.ds2_meaning.specs.Location.{Location}
use Rattle.ds2_meaning.specs.ProgramTree.{sources}
use Rattle.ds2_layout.specs.declared.slot.LayoutSlot.{LayoutSlot}
use Rattle.ds2_layout.specs.declared.slot.SlotRole.TheVariants.{Cleared, Kept, Column}
use Rattle.ds2_layout.specs.Layout.{slot_for}

-- the slot of a variable of the vector, where these tests tell the columns of the reading and the retained variables
abbrev pub vector_slot_by : (List ℕ → Bool) → (List ℕ → Bool) → Variable → LayoutSlot
vector_slot_by columns retained v = slot_for None (Named v.name) v.ty (if columns v.name then Column else if retained v.name then Kept else Cleared)

-- a variable of the program itself
abbrev pub own_variable : List ℕ → Location
own_variable name = record { home = None; global = Named name }

-- the first of two numbers, where there is one
abbrev pub earlier_number : Option ℕ → Option ℕ → Option ℕ
earlier_number None later = later
earlier_number (Some n) later = Some n

-- for each column of an output the number of its variable, 0 where there is none
abbrev pub projection_by : (List ℕ → Option ℕ) → OutputTable → List ℕ
projection_by numbers output = map (λ name. unwrap_or (numbers name) 0) (sources output)
