-- What the code of a body finds fixed, from what the code of the generator holds.
use Rattle.std.specs.Prelude.{ℕ, Option, None}
use Rattle.std.specs.Option.{option_map}
use Rattle.ds2_value.specs.declared.ty.Ty.{Ty}
use Rattle.ds2_value.specs.declared.value.Value.{Value}
use Rattle.ds2_value.specs.declared.value.Value.TheVariants as value
use Rattle.ds2_meaning.specs.Location.{Location}
use Rattle.ds2_meaning.specs.ProgramTree.{UnitTree}
use Rattle.ds2_meaning.specs.View.{unit_tree}
use Rattle.ds2_code.specs.declared.instr.Instr.{Instr}
use Rattle.ds2_code.specs.declared.instr.Instr.TheVariants.{Null as PushesNull, Const}
use Rattle.ds2_gen.specs.CodeCells.{CodeCell, HashCell, IteratorCell, ParameterCell}
use Rattle.ds2_gen.specs.ExpressionCode.{CodeNumbers}
use Rattle.ds2_program_code.specs.PlacedProgram.{number_of_location, hash_locations, iterator_locations, parameter_locations, first_cell}
use Rattle.ds2_numbering.specs.declared.body_numbers.BodyNumbers.{BodyNumbers}
use Rattle.ds2_numbering.specs.FrameNumbers.{frame_numbers}

-- pushes a constant, by the numbers of constants
abbrev pub pushed_by : (Value → Ty → ℕ) → Value → Ty → Instr
pushed_by numbers value.Null ty = PushesNull ty
pushed_by numbers v ty = Const (numbers v ty)

-- the cell of an iterator or of a parameter of a thread program
abbrev pub walking_cell_of : UnitTree → Location → Option CodeCell
walking_cell_of p at = first_cell (option_map IteratorCell (number_of_location (iterator_locations p) at)) (option_map ParameterCell (number_of_location (parameter_locations p) at))

-- the cell of a location that is no slot
abbrev pub other_cell_of : UnitTree → Location → Option CodeCell
other_cell_of p at = first_cell (option_map HashCell (number_of_location (hash_locations p) at)) (walking_cell_of p at)

-- what the code of a body finds fixed
abbrev pub numbers_of_body : BodyNumbers → CodeNumbers
numbers_of_body b = frame_numbers b.slots.now b.constants.now (unit_tree None b.parameters.now b.program.now) b.frame
