-- Why each unit of code ends, and when: where code goes back a step of the budget begins, and a run stays in the list.
use Rattle.std.specs.Prelude.{◌≡◌, ℕ, zero, suc, ◌+◌, ◌*◌, ◌<◌, Bool, true, false, ◌⊎◌, List, [], ◌∷◌, Option, Some, None, length, slice_get, if◌then◌else◌}
use Rattle.ds2_code.specs.declared.instr.Instr.{Instr}
use Rattle.ds2_code.specs.declared.parts.MethodPart.{MethodPart}
use Rattle.ds2_code.specs.declared.parts.ProgramParts.{ProgramParts}
use Rattle.ds2_code.specs.InstructionTable.{Kind, Ticks, Jumps, Tests, GoesBack, Raises, Finishes, kind_of}
use Rattle.ds2_code.specs.CodeRun.{CallFrame, MachineState}

-- an instruction of this kind begins a step of the budget
abbrev pub begins_step : Kind → Bool
begins_step (Ticks place) = true
begins_step _ = false

-- there is an instruction that begins a step of the budget
abbrev pub starts_step : Option Instr → Bool
starts_step None = false
starts_step (Some i) = begins_step (kind_of i)

-- where an instruction of this kind may jump to
abbrev pub jump_target : Kind → Option ℕ
jump_target (Jumps target) = Some target
jump_target (Tests wanted target) = Some target
jump_target _ = None

-- behind an instruction of this kind the run may go on in the list
abbrev pub falls_through : Kind → Bool
falls_through (Jumps target) = false
falls_through (GoesBack has_result) = false
falls_through (Raises fault) = false
falls_through Finishes = false
falls_through _ = true

-- a jump from here to there goes forward, or to where a step of the budget begins
abbrev pub IsBoundedJump : List Instr → ℕ → ℕ → Type 0
IsBoundedJump instrs at to = (at < to) ⊎ (starts_step (slice_get instrs to) ≡ true)

-- each jump goes forward, or to where a step of the budget begins
abbrev pub HasBoundedJumps : List Instr → Type 0
HasBoundedJumps instrs =
    (at to : ℕ) (i : Instr) → slice_get instrs at ≡ Some i → jump_target (kind_of i) ≡ Some to → IsBoundedJump instrs at to

-- there is an instruction wherever a run may go to
pub record StaysInList (code : ProgramParts) : Type 0 where
  pub targets : (at to : ℕ) (i : Instr) → slice_get code.instrs at ≡ Some i → jump_target (kind_of i) ≡ Some to → to < length code.instrs
  pub nexts : (at : ℕ) (i : Instr) → slice_get code.instrs at ≡ Some i → falls_through (kind_of i) ≡ true → at + 1 < length code.instrs
  pub entries : (k : ℕ) (method : MethodPart) → slice_get code.methods k ≡ Some method → method.entry < length code.instrs

-- how many instructions from this one on begin no step of the budget
unfoldable pub plain_ahead : List Instr → ℕ → ℕ
plain_ahead [] at = 0
plain_ahead (i ∷ instrs) zero = (if starts_step (Some i) then 0 else 1) + plain_ahead instrs zero
plain_ahead (i ∷ instrs) (suc at) = plain_ahead instrs at

-- 1 where some instruction begins a step of the budget, else 0
unfoldable pub one_for_steps : List Instr → ℕ
one_for_steps [] = 0
one_for_steps (i ∷ instrs) = if starts_step (Some i) then 1 else one_for_steps instrs

-- the most instructions that a frame executes from here until a step of the budget has begun
unfoldable pub frame_potential : List Instr → ℕ → ℕ
frame_potential instrs at = (if starts_step (slice_get instrs at) then 0 else plain_ahead instrs at) + one_for_steps instrs

-- the same of all callers that wait
unfoldable pub callers_potential : List Instr → List CallFrame → ℕ
callers_potential instrs [] = 0
callers_potential instrs (f ∷ fs) = frame_potential instrs f.to + callers_potential instrs fs

-- the most instructions that a run executes from here, with these callers and this much of the budget
unfoldable pub work_ahead : List Instr → ℕ → List CallFrame → ℕ → ℕ
work_ahead instrs at frames left = left * length instrs + (frame_potential instrs at + callers_potential instrs frames)

-- the most instructions that a machine executes from here
abbrev pub work_left : List Instr → MachineState → ℕ
work_left instrs m = work_ahead instrs m.at m.frames m.progress.left
