-- Jumps that go forward, or to where a step of the budget begins, as a test.
use Rattle.std.specs.Prelude.{ℕ, ◌+◌, nat_lt, Bool, true, false, ◌||◌, if◌then◌else◌, List, [], ◌∷◌, Option, Some, None, slice_get}
use Rattle.ds2_code.specs.declared.instr.Instr.{Instr}
use Rattle.ds2_code.specs.CodeBound.{jump_target, starts_step}
use Rattle.ds2_code.specs.InstructionTable.{kind_of}

-- a jump from here, where there is one, goes forward, or to where a step of the budget begins
abbrev pub is_bounded_jump : List Instr → ℕ → Option ℕ → Bool
is_bounded_jump instrs at None = true
is_bounded_jump instrs at (Some to) = nat_lt at to || starts_step (slice_get instrs to)

-- each jump of these instructions, which stand from here on, does so
abbrev pub jumps_bounded : List Instr → List Instr → ℕ → Bool
jumps_bounded instrs [] at = true
jumps_bounded instrs (i ∷ is) at = if is_bounded_jump instrs at (jump_target (kind_of i)) then jumps_bounded instrs is (at + 1) else false
