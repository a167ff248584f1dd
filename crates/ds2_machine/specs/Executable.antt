-- What the machine asks of code, and of an instruction before it executes it.
use Rattle.std.specs.Prelude.{◌≡◌, ◌<◌, ◌^◌, Bool, true, false, IsTrue, ℕ, length, [], Some, slice_get}
use Rattle.ds2_value.specs.Row.{Row}
use Rattle.ds2_code.specs.declared.instr.Instr.{Instr}
use Rattle.ds2_code.specs.declared.instr.Instr.TheVariants as instr
use Rattle.ds2_code.specs.declared.parts.ProgramParts.{ProgramParts}
use Rattle.ds2_code.specs.CodeBound.{HasBoundedJumps}
use Rattle.ds2_code.specs.Desk.{Taken, take_off}
use Rattle.ds2_code.specs.InstructionTable.{kind_of}
use Rattle.ds2_frames.specs.OperationKinds.{operation_operands, has_scales_for, has_type_in_bounds}

-- an instruction that writes a row or a line
abbrev pub is_writing : Instr → Bool
is_writing (instr.Output number) = true
is_writing (instr.Put n) = true
is_writing _ = false

-- the operands that an operation takes off have the scales that it asks for
abbrev pub HasScalesFor : Instr → Row → Type 0
HasScalesFor i stack = (n : ℕ) (t : Taken) → operation_operands (kind_of i) ≡ Some n → take_off n [] stack ≡ Some t → IsTrue (has_scales_for i t.values)

-- what the machine asks of code: each jump goes forward or to a step of the budget, and types that values are assigned to are in bounds
pub record IsExecutable (code : ProgramParts) : Type 0 where
  pub steps : HasBoundedJumps code.instrs
  pub short : length code.instrs < 2 ^ 32
  pub bounds : (at : ℕ) (i : Instr) → slice_get code.instrs at ≡ Some i → IsTrue (has_type_in_bounds i)
