-- A program of a chain: the data program, or one of the thread programs below it.
use Rattle.std.specs.Prelude.{◌≡◌, ◌≤◌, ℕ, false, drop, length}
use Rattle.ds2_code.specs.declared.parts.StagedParts.{StagedParts}
use Rattle.ds2_code.specs.Scales.{IsDataScaled}
use Rattle.ds2_machine.specs.AtRest.{MachineAtRest, staged_program}
use Rattle.ds2_unit.specs.declared.place.ProgramPlace.{ProgramPlace}

-- the program of a number with the thread programs below it
abbrev pub chain_from : StagedParts → (number : ℕ) → StagedParts
chain_from parts number = record { program = staged_program parts number; stages = drop number parts.stages }

-- a place is that of the program of its number
pub record IsPlaceOfChain (place : ProgramPlace) : Type 0 where
  pub here : staged_program place.code.now place.number ≡ place.program.now
  pub there : place.number ≤ length place.code.now.stages

-- a machine is one for the program at a place, and may run its next unit
pub record IsMachineAt (place : ProgramPlace) (machine : MachineAtRest) : Type 0 where
  pub number : staged_program place.code.now machine.program ≡ place.program.now
  pub scaled : IsDataScaled (staged_program place.code.now machine.program) machine.state
  pub ready : machine.spent ≡ false
