-- What the code of a body finds fixed, by the slots and the constants of its program.
use Rattle.std.specs.Prelude.{ℕ, ◌+◌, Bool, List, [], length, Option, None}
use Rattle.std.specs.Option.{option_map}
use Rattle.ds2_meaning.specs.declared.globals.Variable.{Variable}
use Rattle.ds2_meaning.specs.declared.statements.Statement as code_statement
use Rattle.ds2_meaning.specs.declared.units.Instance.{Instance}
use Rattle.ds2_meaning.specs.Location.{Home}
use Rattle.ds2_meaning.specs.ProgramTree.{BodyTree, UnitTree, objects_of, output_sources}
use Rattle.ds2_meaning.specs.View.{init_tree, typed_method, typed_statements}
use Rattle.ds2_layout.specs.declared.slot.LayoutSlot.{LayoutSlot}
use Rattle.ds2_gen.specs.CodeCells.{Nameable, GlobalAt, LocalNamed, CodeCell, SlotCell, LocalCell}
use Rattle.ds2_gen.specs.ExpressionCode.{CodeNumbers}
use Rattle.ds2_gen.specs.StatementCode.{statements_keep}
use Rattle.ds2_program_code.specs.PlacedProgram.{number_of_name, names_of_variables, frame_names, frame_size, system_reserved, method_reserved}
use Rattle.ds2_program_code.specs.UsedConstants.{UsedConstant}
use Rattle.ds2_program_code.specs.CodeConstants.{constant_number}
use Rattle.ds2_program_code.specs.CodeMethods.{callee_of}
use Rattle.ds2_emitter.specs.declared.returning.Returning.{Returning}
use Rattle.ds2_emitter.specs.declared.returning.Returning.TheVariants.{ToEnd}
use Rattle.ds2_statement_emitter.specs.BodyWords.{method_returning}
use Rattle.ds2_numbering.specs.declared.frame.Frame.{Frame}
use Rattle.ds2_numbering.specs.declared.frame.Frame.TheVariants as frame
use Rattle.ds2_numbering.specs.CellNumbers.{cell_among}
use Rattle.ds2_numbering.specs.SoughtLocations.{home_of_name}

-- the body of a system method, with what it constructs first
abbrev pub body_in : List Variable → List Instance → List code_statement.Statement → BodyTree
body_in locals instances body = init_tree instances (record { locals = locals; statements = typed_statements body })

-- whose code it is
abbrev pub home_in : Frame → Home
home_in (frame.System first locals instances body) = None
home_in (frame.Declared home method) = home_of_name home

-- how its statements return
abbrev pub way_in : Frame → Returning
way_in (frame.System first locals instances body) = ToEnd
way_in (frame.Declared home method) = method_returning method.now.returns

-- where a parameter or local is
abbrev pub local_in : Frame → List ℕ → Option CodeCell
local_in (frame.System first locals instances body) name = option_map (λ n. SlotCell (first + n)) (number_of_name (names_of_variables locals.now) name)
local_in (frame.Declared home method) name = option_map LocalCell (number_of_name (frame_names (typed_method method.now)) name)

-- where a kept value is
abbrev pub kept_in : Frame → ℕ → CodeCell
kept_in (frame.System first locals instances body) k = SlotCell (first + length locals.now + k)
kept_in (frame.Declared home method) k = LocalCell (frame_size (typed_method method.now) + k)

-- for each output of the program the variables of its columns; a declared method writes no row
abbrev pub outputs_of_frame : UnitTree → Frame → List (List (List ℕ))
outputs_of_frame p (frame.System first locals instances body) = output_sources p
outputs_of_frame p (frame.Declared home method) = []

-- how many values its code keeps
abbrev pub kept_count_in : Frame → ℕ
kept_count_in (frame.System first locals instances body) = statements_keep (body_in locals.now instances.now body.now).statements
kept_count_in (frame.Declared home method) = statements_keep (typed_method method.now).body

-- what its code leaves alone that keeps values from a number on
abbrev pub reserved_in : UnitTree → Frame → ℕ → CodeCell → Bool
reserved_in p (frame.System first locals instances body) = system_reserved p first (body_in locals.now instances.now body.now)
reserved_in p (frame.Declared home method) = method_reserved p (typed_method method.now)

-- the cell of what a body names, where these are the slots of its program
abbrev pub cell_in : List LayoutSlot → UnitTree → Frame → Nameable → Option CodeCell
cell_in slots p f (GlobalAt at) = cell_among slots p at
cell_in slots p f (LocalNamed name) = local_in f name

-- what the code of a body finds fixed, where these are the slots and the constants of its program
abbrev pub frame_numbers : List LayoutSlot → List UsedConstant → UnitTree → Frame → CodeNumbers
frame_numbers slots constants p f = record {
  home = home_in f;
  objects = objects_of p (home_in f);
  outputs = outputs_of_frame p f;
  placement = record { cell = cell_in slots p f; kept_cell = kept_in f; kept_count = kept_count_in f; is_reserved = reserved_in p f };
  constant = constant_number constants;
  callee = callee_of p;
}
