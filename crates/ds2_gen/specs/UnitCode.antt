-- The instructions of the system methods, and when a unit of code ends as the unit means.
use Rattle.std.specs.List.{range_with_len}
use Rattle.std.specs.Prelude.{◌≡◌, ℕ, ◌<◌, ◌+◌, true, List, [], ◌∷◌, ◌++◌, length, slice_get, Some, if◌then◌else◌}
use Rattle.ds2_value.specs.Progress.{UnitOutcome, Completed, Interrupted}
use Rattle.ds2_value.specs.declared.value.Value.{Value}
use Rattle.ds2_meaning.specs.declared.globals.Variable.{Variable}
use Rattle.ds2_meaning.specs.Location.{Location, Storage}
use Rattle.ds2_meaning.specs.ProgramTree.{BodyTree, UnitTree, has_variable, program_has_output}
use Rattle.ds2_code.specs.declared.instr.Instr.{Instr}
use Rattle.ds2_code.specs.declared.instr.Instr.TheVariants as instr
use Rattle.ds2_code.specs.Desk.{ProgramData}
use Rattle.ds2_gen.specs.CodeCells.{Nameable, GlobalAt, LocalNamed, CodeCell, SlotCell, LocalCell, Cells, CellHas, Placement, IsPlacement, HasKeptRoom, LeaveReserved}
use Rattle.ds2_gen.specs.CodePieces.{ExitPoints, JumpsToEnd}
use Rattle.ds2_gen.specs.ExpressionCode.{CodeNumbers, store_instr}
use Rattle.ds2_gen.specs.StatementCode.{outputs_code, statements_size, statements_code}

-- sets each local of a system method to null
abbrev pub locals_code : CodeNumbers → List Variable → List Instr
locals_code numbers [] = []
locals_code numbers (v ∷ locals) = instr.Null v.ty ∷ store_instr (numbers.placement.cell (LocalNamed v.name)) ∷ locals_code numbers locals

-- the number of the first statement's first instruction
abbrev pub body_start : CodeNumbers → ℕ → BodyTree → ℕ
body_start numbers at body = at + length (locals_code numbers body.locals)

-- the number of the instruction behind the statements
abbrev pub body_end : CodeNumbers → ℕ → BodyTree → ℕ
body_end numbers at body = body_start numbers at body + statements_size numbers body.statements

-- every way out of a system method leads behind its statements
abbrev pub unit_exits : ℕ → ExitPoints
unit_exits end = record { leave = end; continue = end; return = JumpsToEnd end }

-- the instructions of a system method: its locals are set to null, its statements, and what stands behind them
abbrev pub body_code : CodeNumbers → ℕ → BodyTree → List Instr → List Instr
body_code numbers at body ending =
    locals_code numbers body.locals ++ (statements_code numbers (body_start numbers at body) 0 (unit_exits (body_end numbers at body)) body.statements ++ ending)

-- what stands behind the statements of `init` and `term`
abbrev pub plain_ending : List Instr
plain_ending = instr.End ∷ []

-- the outputs that `run` writes to at its end: all of them where no `output` statement stands in the program
abbrev pub implicit_outputs : UnitTree → List ℕ
implicit_outputs p = if program_has_output p then [] else range_with_len 0 (length p.outputs)

-- what stands behind the statements of `run`
abbrev pub run_ending : UnitTree → List Instr
run_ending p = outputs_code (implicit_outputs p) ++ instr.End ∷ []

-- a program's data as cells of a frame without locals
abbrev pub data_cells : ProgramData → Cells
data_cells state = record { locals = []; state = state }

-- a program's data holds what the meaning keeps from one unit to the next, and has a slot for each local of a system method and for
-- each value that its code keeps
pub record HoldsStorage (p : Placement) (kept : Storage) (state : ProgramData) : Type 0 where
  pub globals : (at : Location) (c : CodeCell) → p.cell (GlobalAt at) ≡ Some c → CellHas c (kept at) (data_cells state)
  pub slots : (name : List ℕ) (n : ℕ) → p.cell (LocalNamed name) ≡ Some (SlotCell n) → (v : Value) × (slice_get state.slots n ≡ Some v)
  pub room : HasKeptRoom p (data_cells state)

-- a unit of code that began with this data has ended as the unit means: with its rows, lines, way, place and budget left, by the
-- same fault where it is one, and after a normal end with data that holds what the meaning keeps, reserved cells as they were
abbrev pub EndsAlike : Placement → ProgramData → UnitOutcome ProgramData → UnitOutcome Storage → Type 0
EndsAlike p before (Completed state q executed) (Completed kept r none) =
    (q ≡ r) × HoldsStorage p kept state × LeaveReserved p 0 (data_cells before) (data_cells state)
EndsAlike p before (Interrupted fault q executed) (Interrupted other r none) = (fault ≡ other) × (q ≡ r)
EndsAlike p before _ _ = ⊥

-- these variables have a slot each
abbrev pub HaveSlots : Placement → List Variable → Type 0
HaveSlots p [] = Unit {0}
HaveSlots p (v ∷ locals) = ((n : ℕ) × (p.cell (LocalNamed v.name) ≡ Some (SlotCell n))) × HaveSlots p locals

-- the placement of a system method: its locals have a slot each, no other name has a cell as a local, and nothing lies in the frame
pub record IsUnitPlacement (p : Placement) (locals : List Variable) : Type 0 where
  pub sound : IsPlacement p
  pub slots : HaveSlots p locals
  pub alone : (name : List ℕ) (c : CodeCell) → p.cell (LocalNamed name) ≡ Some c → has_variable locals name ≡ true
  pub frameless : (x : Nameable) (n : ℕ) → p.cell x ≡ Some (LocalCell n) → ⊥
  pub kept_frameless : (k n : ℕ) → k < p.kept_count → p.kept_cell k ≡ LocalCell n → ⊥
