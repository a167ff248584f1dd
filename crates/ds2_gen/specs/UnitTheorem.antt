-- The theorem of the generator: the code of a program's units does what the units mean.
use Rattle.std.specs.Prelude.{◌≡◌, ℕ, ◌<◌, ◌≤◌, Bool, true, false, List, [], ◌∷◌, length, slice_get, Some, None}
use Rattle.ds2_meaning.specs.Location.{Home, Location, Storage}
use Rattle.ds2_meaning.specs.ProgramMeaning.{is_cleared_at, program_units}
use Rattle.ds2_meaning.specs.ProgramTree.{BodyTree, UnitTree, output_sources, declarations_of}
use Rattle.ds2_meaning.specs.Reading.{Settings}
use Rattle.ds2_code.specs.declared.instr.Instr.{Instr}
use Rattle.ds2_code.specs.declared.parts.ProgramParts.{ProgramParts}
use Rattle.ds2_code.specs.declared.parts.Slot.{Slot}
use Rattle.ds2_code.specs.declared.parts.SlotRole.{SlotRole}
use Rattle.ds2_code.specs.declared.parts.SlotRole.TheVariants.{Cleared, Kept, Column, Flag}
use Rattle.ds2_code.specs.CodeBound.{HasBoundedJumps, StaysInList}
use Rattle.ds2_code.specs.CodeUnit.{code_init, code_run, code_term}
use Rattle.ds2_code.specs.Desk.{ProgramData, SlotSettings}
use Rattle.ds2_gen.specs.CodeCells.{GlobalAt, CodeCell, SlotCell, Placement}
use Rattle.ds2_gen.specs.CodePieces.{StandsAt, JumpsToEnd}
use Rattle.ds2_gen.specs.CoveredForms.{HaveOutputs, AreCoveredStatements}
use Rattle.ds2_gen.specs.ExpressionCode.{CodeNumbers}
use Rattle.ds2_gen.specs.MethodCode.{CalleesFit, MethodsFit}
use Rattle.ds2_gen.specs.StatementCode.{statements_keep}
use Rattle.ds2_gen.specs.UnitCode.{body_end, body_code, plain_ending, implicit_outputs, run_ending, HoldsStorage, EndsAlike, IsUnitPlacement}

-- the code of a system method of a program stands at an entry, with what stands behind its statements, and so do the methods that it
-- calls, each with its own numbers
pub record HasSystemMethod (code : ProgramParts) (methods : Home → ℕ → CodeNumbers) (numbers : CodeNumbers) (p : UnitTree) (body : BodyTree) (entry : ℕ) (ending : List Instr) : Type 0 where
  pub home : numbers.home ≡ None
  pub objects : numbers.objects ≡ p.objects
  pub outputs : numbers.outputs ≡ output_sources p
  pub placement : IsUnitPlacement numbers.placement body.locals
  pub covered : AreCoveredStatements code numbers (JumpsToEnd (body_end numbers entry body)) body.statements
  pub kept : statements_keep body.statements ≤ numbers.placement.kept_count
  pub stands : StandsAt code.instrs entry (body_code numbers entry body ending)
  pub inside : entry < length code.instrs
  pub callees : CalleesFit code (declarations_of p) methods numbers

-- ---- loads

-- what a load sets in the meaning and in the code: the same values, each in the slot of its global
abbrev pub AreSameSettings : Placement → Settings → SlotSettings → Type 0
AreSameSettings p [] [] = Unit {0}
AreSameSettings p (set ∷ more) (slot ∷ others) =
    (p.cell (GlobalAt (record { home = None; global = set.0 })) ≡ Some (SlotCell slot.0)) × (slot.1 ≡ set.1) × AreSameSettings p more others
AreSameSettings p _ _ = ⊥

-- a slot of this role is set to null before a load where that is so
abbrev pub RoleFits : SlotRole → Bool → Type 0
RoleFits Cleared clears = clears ≡ true
RoleFits Kept clears = clears ≡ false
RoleFits Column clears = clears ≡ false
RoleFits Flag clears = clears ≡ false

-- a cell is a slot
abbrev pub IsSlotCell : CodeCell → Type 0
IsSlotCell (SlotCell n) = Unit {0}
IsSlotCell _ = ⊥

-- `run` sets a slot to null before a load exactly where the meaning sets its location to null, and no reserved one
pub record RolesFit (code : ProgramParts) (p : Placement) (unit : UnitTree) : Type 0 where
  pub slots : (at : Location) (n : ℕ) → p.cell (GlobalAt at) ≡ Some (SlotCell n)
      → (s : Slot) × (slice_get code.slots n ≡ Some s) × RoleFits s.role (is_cleared_at unit at.home at.global)
  pub cleared : (at : Location) (c : CodeCell) → p.cell (GlobalAt at) ≡ Some c → is_cleared_at unit at.home at.global ≡ true → IsSlotCell c
  pub reserved : (n : ℕ) (s : Slot) → p.is_reserved 0 (SlotCell n) ≡ true → slice_get code.slots n ≡ Some s → RoleFits s.role false

-- ---- programs

-- code is that of a program's units, whose system methods and declared methods each have their own numbers: it stands at the entries,
-- its roles and outputs are those of the program, and its runs end
pub record IsCodeOfUnits (code : ProgramParts) (p : UnitTree) (init run term : CodeNumbers) (methods : Home → ℕ → CodeNumbers) : Type 0 where
  pub at_init : HasSystemMethod code methods init p p.init code.init plain_ending
  pub at_run : HasSystemMethod code methods run p p.run code.run (run_ending p)
  pub at_term : HasSystemMethod code methods term p p.term code.term plain_ending
  pub inner : MethodsFit code (declarations_of p) methods
  pub implicit : HaveOutputs code run (implicit_outputs p)
  pub roles : RolesFit code run.placement p
  pub jumps : HasBoundedJumps code.instrs
  pub stays : StaysInList code

-- code does what a program's units mean: for every budget, load and data that holds a state, each unit ends as it means
pub record KeepsMeaning (code : ProgramParts) (p : UnitTree) (init run term : CodeNumbers) : Type 0 where
  pub in_init : (budget : ℕ) (kept : Storage) (state : ProgramData) → HoldsStorage init.placement kept state
      → EndsAlike init.placement state (code_init code budget state) ((program_units p budget).init kept)
  pub in_run : (budget : ℕ) (load : Settings) (slots : SlotSettings) (kept : Storage) (state : ProgramData) → AreSameSettings run.placement load slots → HoldsStorage run.placement kept state
      → EndsAlike run.placement state (code_run code budget slots state) ((program_units p budget).run load kept)
  pub in_term : (budget : ℕ) (kept : Storage) (state : ProgramData) → HoldsStorage term.placement kept state
      → EndsAlike term.placement state (code_term code budget state) ((program_units p budget).term kept)

-- the code of a program's units does what they mean
abbrev pub CodeKeepsMeaning : Type 0
CodeKeepsMeaning = (code : ProgramParts) (p : UnitTree) (init run term : CodeNumbers) (methods : Home → ℕ → CodeNumbers) → IsCodeOfUnits code p init run term methods → KeepsMeaning code p init run term
