-- What the code of a call does, and what the code of a body finds around it.
use Rattle.std.specs.Prelude.{◌≡◌, ℕ, suc, ◌+◌, Bool, true, false, List, [], ◌∷◌, length, Some, slice_get, if◌then◌else◌}
use Rattle.ds2_value.specs.Row.{Row}
use Rattle.ds2_value.specs.declared.value.Value.{Value}
use Rattle.ds2_meaning.specs.Evaluation.{CallEnd, Answers, CallBreaks, Calls, Surroundings}
use Rattle.ds2_meaning.specs.Location.{Home}
use Rattle.ds2_meaning.specs.RunState.{RunState}
use Rattle.ds2_code.specs.declared.instr.Instr.TheVariants.{Call}
use Rattle.ds2_code.specs.declared.parts.MethodPart.{MethodPart}
use Rattle.ds2_code.specs.declared.parts.ParameterPart.{ParameterPart}
use Rattle.ds2_code.specs.declared.parts.ProgramParts.{ProgramParts}
use Rattle.ds2_code.specs.CodeRun.{CallFrame, MachineState, Broken}
use Rattle.ds2_gen.specs.CodeCells.{Cells, desk_of, Placement, IsPlacement, HoldState}
use Rattle.ds2_gen.specs.CodePieces.{EndsWith, machine_at, ComesTo}
use Rattle.ds2_gen.specs.ExpressionCode.{Callee, CodeNumbers}

-- operands with values above them, the last one on top
abbrev pub stacked : List Value → Row → Row
stacked [] below = below
stacked (v ∷ vs) below = stacked vs (v ∷ below)

-- the result of a method above operands, where it has one
abbrev pub with_method_result : (has_result : Bool) → Value → Row → Row
with_method_result false v below = below
with_method_result true v below = v ∷ below

-- how many parameters are handed in and out
abbrev pub in_out_count : List ParameterPart → ℕ
in_out_count [] = 0
in_out_count (p ∷ ps) = if p.is_in_out then suc (in_out_count ps) else in_out_count ps

-- a call comes to the next instruction with the method's result above the operands below, where it has one, and above that the last
-- values of its in_out parameters; or its fault ends the run
abbrev pub ComesBack : ProgramParts → Placement → ℕ → MachineState → ℕ → Row → Callee → MethodPart → CallEnd → Type 0
ComesBack code p kept m to below callee part (Answers result handed_back w) =
    (length handed_back ≡ in_out_count part.parameters) × ComesTo code p kept m to (stacked handed_back (with_method_result callee.has_result result below)) w
ComesBack code p kept m to below callee part (CallBreaks f w) = EndsWith code m (Broken f w.progress)

-- each call of a method of the code does so, with its arguments above the operands below, while these callers wait
abbrev pub CallsComeBack : ProgramParts → CodeNumbers → Calls → List CallFrame → Type 0
CallsComeBack code numbers calls frames =
    (home : Home) (k : ℕ) (callee : Callee) (part : MethodPart) (kept at : ℕ) (arguments : List Value) (below : Row) (cells : Cells) (w : RunState)
    → numbers.callee home k ≡ Some callee → slice_get code.methods callee.number ≡ Some part → length arguments ≡ length part.parameters
    → slice_get code.instrs at ≡ Some (Call callee.number) → HoldState numbers.placement w cells
    → ComesBack code numbers.placement kept (machine_at at (desk_of (stacked arguments below) cells) frames w.progress) (at + 1) below callee part (calls home k arguments w)

-- what code finds fixed is what the meaning's statements find around them, and its calls do what theirs do
pub record IsAround (code : ProgramParts) (numbers : CodeNumbers) (s : Surroundings) (frames : List CallFrame) : Type 0 where
  pub home : s.home ≡ numbers.home
  pub objects : s.objects ≡ numbers.objects
  pub outputs : s.outputs ≡ numbers.outputs
  pub placement : IsPlacement numbers.placement
  pub calls : CallsComeBack code numbers s.calls frames
