-- The cells of globals, by the slots of a program and by what it declares.
use Rattle.std.specs.Prelude.{ℕ, bytes_eq, if◌then◌else◌, List, [], map, Option, Some, None}
use Rattle.std.specs.Option.{option_map}
use Rattle.ds2_meaning.specs.declared.hashes.ThreadInstance.{ThreadInstance}
use Rattle.ds2_meaning.specs.declared.units.Program.{Program}
use Rattle.ds2_meaning.specs.Location.{Location}
use Rattle.ds2_meaning.specs.ProgramTree.{InstanceTree, UnitTree}
use Rattle.ds2_meaning.specs.View.{unit_tree}
use Rattle.ds2_layout.specs.declared.slot.LayoutSlot.{LayoutSlot}
use Rattle.ds2_layout.specs.Layout.{location_of_slot}
use Rattle.ds2_gen.specs.CodeCells.{CodeCell, SlotCell, LocalCell, HashCell, IteratorCell, ParameterCell}
use Rattle.ds2_program_code.specs.PlacedProgram.{number_of_location, hashes_at, iterators_at, parameters_at, hash_locations, iterator_locations, parameter_locations, first_cell}
use Rattle.ds2_numbering.specs.declared.cell.Cell.{Cell}
use Rattle.ds2_numbering.specs.declared.cell.Cell.TheVariants as cell

-- a program as its meaning sees it, but for the name and the parameters that a thread program has
abbrev pub tree_of : Program → UnitTree
tree_of program = unit_tree None [] program

-- the locations of the hash objects of an instance
abbrev pub instance_hashes : InstanceTree → List Location
instance_hashes i = hashes_at (Some i.name) i.objects

-- those of its iterators
abbrev pub instance_iterators : InstanceTree → List Location
instance_iterators i = iterators_at (Some i.name) i.objects

-- those of the parameters of an instance of a thread program, where it is the one of this name
abbrev pub read_parameters : List ℕ → ThreadInstance → List Location
read_parameters instance t = if bytes_eq t.name instance then parameters_at t else []

-- a cell of code
abbrev pub code_cell : Cell → CodeCell
code_cell (cell.Slot n) = SlotCell n
code_cell (cell.Local n) = LocalCell n
code_cell (cell.Hash n) = HashCell n
code_cell (cell.Iterator n) = IteratorCell n
code_cell (cell.Parameter n) = ParameterCell n

-- the cell of a location, where these are the slots of the program
abbrev pub cell_among : List LayoutSlot → UnitTree → Location → Option CodeCell
cell_among slots p at =
    first_cell (option_map SlotCell (number_of_location (map location_of_slot slots) at))
    (first_cell (option_map HashCell (number_of_location (hash_locations p) at))
    (first_cell (option_map IteratorCell (number_of_location (iterator_locations p) at)) (option_map ParameterCell (number_of_location (parameter_locations p) at))))
