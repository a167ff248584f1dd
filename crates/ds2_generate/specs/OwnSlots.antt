-- The slots of a program's code, and the first of those that its system methods have of their own.
use Rattle.std.specs.Prelude.{◌≡◌, ℕ, List}
use Rattle.ds2_value.specs.declared.ty.Ty.{Ty}
use Rattle.ds2_meaning.specs.ProgramTree.{UnitTree}
use Rattle.ds2_code.specs.declared.parts.Slot.{Slot}
use Rattle.ds2_code.specs.declared.parts.SlotRole.TheVariants.{Kept}
use Rattle.ds2_program_code.specs.PlacedProgram.{layout_size, first_of_run, first_of_term}
use Rattle.ds2_program_code.specs.CodeParts.{code_slots}
use Rattle.ds2_generate.specs.declared.program.ProgramSlots.{ProgramSlots}

-- a slot of this name and type, which `run` keeps
abbrev pub kept_slot : List ℕ → Ty → Slot
kept_slot name ty = record { name = name; ty = ty; role = Kept }

-- these are the slots of a program, and those of its system methods begin at these numbers
pub record AreProgramSlots (p : UnitTree) (s : ProgramSlots) : Type 0 where
  pub slots : s.slots ≡ code_slots p
  pub init : s.init ≡ layout_size p
  pub run : s.run ≡ first_of_run p
  pub term : s.term ≡ first_of_term p
