-- A machine between two units, and what it tells of one.
use Rattle.std.specs.Prelude.{◌≡◌, zero, suc, ℕ, unwrap_or, Bool, true, false, List, ◌∷◌, Some, slice_get, Result, Ok, Err}
use Rattle.ds2_base.specs.declared.place.Place.{Place}
use Rattle.ds2_base.specs.declared.stop.OutOfMemory.{OutOfMemory}
use Rattle.ds2_value.specs.Progress.{UnitOutcome, Completed, Interrupted, Strayed}
use Rattle.ds2_value.specs.Run.{Written}
use Rattle.ds2_value.specs.declared.fault.Ending.{Ending}
use Rattle.ds2_value.specs.declared.fault.Ending.TheVariants.{Normal, Faulted}
use Rattle.ds2_code.specs.declared.parts.ProgramParts.{ProgramParts}
use Rattle.ds2_code.specs.declared.parts.StagedParts.{StagedParts}
use Rattle.ds2_code.specs.Desk.{ProgramData}
use Rattle.ds2_code.specs.ValidCode.{IsValidStaged}
use Rattle.ds2_machine.specs.Sink.{SinkTakes}
use Rattle.ds2_machine.specs.declared.state.Halt.{Halt}
use Rattle.ds2_machine.specs.declared.state.Halt.TheVariants as halt
use Rattle.ds2_machine.specs.declared.unit_end.UnitEnd.{UnitEnd}

-- the program's data, and whether the last unit came to no normal end
pub record MachineAtRest : Type 0 where
  pub state : ProgramData
  pub spent : Bool
  -- the number of the program: 0 for the data program, k for the k-th thread program below it
  pub program : ℕ

-- the code of a program, or of a thread program, in valid code
pub record IsProgramOfValid (code : ProgramParts) : Type 0 where
  pub parts : StagedParts
  pub valid : IsValidStaged parts
  pub number : ℕ
  pub here : slice_get (parts.program ∷ parts.stages) number ≡ Some code

-- the program of a number: the data program, or the k-th thread program below it; the data program where there is none
abbrev pub staged_program : StagedParts → ℕ → ProgramParts
staged_program parts zero = parts.program
staged_program parts (suc k) = unwrap_or (slice_get parts.stages k) parts.program

-- the ending of a unit that has halted so, in the step at a place
abbrev pub IsEndingAt : Halt → Place → Ending → Type 0
IsEndingAt halt.Normal place ending = ending ≡ Normal
IsEndingAt (halt.Faulted fault) place ending = ending ≡ Faulted fault place
IsEndingAt halt.Stuck place ending = ⊥

-- the ending, the budget left and the number of instructions are those of an outcome, and so is the data after a normal end; the sink
-- has taken the outcome's rows and lines
abbrev pub IsUnitEnd : {S : Type 0} → (S → S → List Written → List (List ℕ) → Type 0) → S → S → UnitOutcome ProgramData → UnitEnd → ProgramData → Type 0
IsUnitEnd has_taken before after (Completed state p n) end now =
    (end.ending ≡ Normal) × (end.left ≡ p.left) × (end.executed ≡ n) × SinkTakes has_taken before after p.rows p.lines × (now ≡ state)
IsUnitEnd has_taken before after (Interrupted fault p n) end now =
    (end.ending ≡ Faulted fault p.place) × (end.left ≡ p.left) × (end.executed ≡ n) × SinkTakes has_taken before after p.rows p.lines
IsUnitEnd has_taken before after Strayed end now = ⊥

-- a unit that ended so leaves its machine spent: it came to no normal end
abbrev pub is_early : Ending → Bool
is_early Normal = false
is_early (Faulted fault place) = true

-- whether a machine is spent after a call: its unit came to no normal end, or memory ran out
abbrev pub leaves_spent : Result UnitEnd OutOfMemory → Bool
leaves_spent (Ok end) = is_early end.ending
leaves_spent (Err e) = true
