-- What is proved of any list of instructions.
use Rattle.std.specs.Prelude.{◌≡◌, IsTrue, ℕ, ◌+◌, ◌*◌, ◌<◌, ◌≤◌, List, [], map, None, length, slice_get}
use Rattle.ds2_value.specs.Progress.{UnitOutcome, Completed, Interrupted, Strayed, has_end}
use Rattle.ds2_value.specs.Run.{Event}
use Rattle.ds2_code.specs.declared.parts.ProgramParts.{ProgramParts}
use Rattle.ds2_code.specs.CodeBound.{HasBoundedJumps, StaysInList, work_left}
use Rattle.ds2_code.specs.CodeRun.{CallFrame, MachineState, CodeEnd, EndReached, Broken, Stuck, GoesOn, after_instruction, CodeRun, UnderWay, Over, run_code}
use Rattle.ds2_code.specs.CodeUnit.{unit_begun, most_executed, code_unit}
use Rattle.ds2_code.specs.Desk.{ProgramData}

-- ---- one end

-- a run has one end, after one number of instructions, however many it is followed for
abbrev pub RunHasOneEnd : Type 0
RunHasOneEnd =
    (code : ProgramParts) (n k i j : ℕ) (m : MachineState) (e f : CodeEnd)
    → run_code code n m ≡ Over i e → run_code code k m ≡ Over j f → (i ≡ j) × (e ≡ f)

-- ---- two runs with one way

-- a run is not stuck
abbrev pub IsNotStuck : CodeEnd → Type 0
IsNotStuck (EndReached state p) = Unit {0}
IsNotStuck (Broken fault p) = Unit {0}
IsNotStuck Stuck = ⊥

-- the way of a run that has ended
abbrev pub way_of_end : CodeEnd → List Event
way_of_end (EndReached state p) = p.way
way_of_end (Broken fault p) = p.way
way_of_end Stuck = []

-- what is left of the budget of a run that has ended
abbrev pub left_of_end : CodeEnd → ℕ
left_of_end (EndReached state p) = p.left
left_of_end (Broken fault p) = p.left
left_of_end Stuck = 0

-- where the callers that wait go on
abbrev pub return_places : List CallFrame → List ℕ
return_places frames = map (λ (f : CallFrame). f.to) frames

-- two runs from one place, with callers that go on at equal places, whose ways are equal execute equally many instructions
abbrev pub RunsCountAlike : Type 0
RunsCountAlike =
    (code : ProgramParts) (n k i j : ℕ) (m u : MachineState) (e f : CodeEnd) → m.at ≡ u.at → return_places m.frames ≡ return_places u.frames
    → m.progress.way ≡ u.progress.way → run_code code n m ≡ Over i e → run_code code k u ≡ Over j f → IsNotStuck e → IsNotStuck f
    → way_of_end e ≡ way_of_end f → i ≡ j

-- the way of a unit
abbrev pub unit_way : UnitOutcome ProgramData → List Event
unit_way (Completed state p n) = p.way
unit_way (Interrupted fault p n) = p.way
unit_way Strayed = []

-- how many instructions a unit executed
abbrev pub unit_executed : UnitOutcome ProgramData → ℕ
unit_executed (Completed state p n) = n
unit_executed (Interrupted fault p n) = n
unit_executed Strayed = 0

-- what a unit left of its budget
abbrev pub unit_left : UnitOutcome ProgramData → ℕ
unit_left (Completed state p n) = p.left
unit_left (Interrupted fault p n) = p.left
unit_left Strayed = 0

-- two units from one entry whose ways are equal execute equally many instructions, whatever their budgets and data
abbrev pub UnitsCountAlike : Type 0
UnitsCountAlike =
    (code : ProgramParts) (entry budget other : ℕ) (state changed : ProgramData)
    → IsTrue (has_end (code_unit code entry budget state)) → IsTrue (has_end (code_unit code entry other changed))
    → unit_way (code_unit code entry budget state) ≡ unit_way (code_unit code entry other changed)
    → unit_executed (code_unit code entry budget state) ≡ unit_executed (code_unit code entry other changed)

-- ---- the bound

-- each instruction that does not end a run leaves less work
abbrev pub InstructionsLeaveLess : Type 0
InstructionsLeaveLess =
    (code : ProgramParts) (m u : MachineState) → HasBoundedJumps code.instrs
    → after_instruction code (slice_get code.instrs m.at) m ≡ GoesOn u → work_left code.instrs u < work_left code.instrs m

-- a unit begins with at most (budget + 1) times the length of the list
abbrev pub UnitsBeginWithLittle : Type 0
UnitsBeginWithLittle =
    (code : ProgramParts) (entry budget : ℕ) (state : ProgramData) → work_left code.instrs (unit_begun entry budget state) ≤ most_executed code budget

-- a run of so many instructions is over, or has left the list: there is no instruction where it has come to
abbrev pub HasComeToAnEnd : ProgramParts → ℕ → CodeRun → Type 0
HasComeToAnEnd code n (Over k e) = k ≤ n
HasComeToAnEnd code n (UnderWay m) = slice_get code.instrs m.at ≡ None

-- after at most (budget + 1) times the length of the list each unit has come to an end, or has left the list
abbrev pub UnitsEndInTime : Type 0
UnitsEndInTime =
    (code : ProgramParts) (entry budget : ℕ) (state : ProgramData) → HasBoundedJumps code.instrs
    → HasComeToAnEnd code (most_executed code budget) (run_code code (most_executed code budget) (unit_begun entry budget state))

-- a unit executes at most (steps and calls begun + 1) times the length of the list
abbrev pub UnitsArePaid : Type 0
UnitsArePaid =
    (code : ProgramParts) (entry budget : ℕ) (state : ProgramData) → HasBoundedJumps code.instrs
    → IsTrue (has_end (code_unit code entry budget state))
    → unit_executed (code_unit code entry budget state) + unit_left (code_unit code entry budget state) * length code.instrs ≤ most_executed code budget

-- the run of a unit is over within the bound, and has no other end
pub record IsEndOfUnit (code : ProgramParts) (entry budget : ℕ) (state : ProgramData) : Type 0 where
  pub executed : ℕ
  pub end : CodeEnd
  pub run : run_code code (most_executed code budget) (unit_begun entry budget state) ≡ Over executed end
  pub bound : executed ≤ most_executed code budget
  pub alone : (n k : ℕ) (e : CodeEnd) → run_code code n (unit_begun entry budget state) ≡ Over k e → (k ≡ executed) × (e ≡ end)

-- a unit of code with bounded jumps, whose runs stay in the list, has its end within the bound
abbrev pub UnitsHaveTheirEnd : Type 0
UnitsHaveTheirEnd =
    (code : ProgramParts) (entry budget : ℕ) (state : ProgramData) → HasBoundedJumps code.instrs → StaysInList code
    → entry < length code.instrs → IsEndOfUnit code entry budget state
