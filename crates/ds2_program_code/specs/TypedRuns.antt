-- Which operands the code of typed statements needs, by their types, where its jumps may lead, and what it leaves.
use Rattle.std.specs.Prelude.{◌≡◌, IsTrue, ℕ, ◌+◌, ◌<◌, nat_le, Bool, true, false, List, [], ◌∷◌, length, slice_get, Option, Some, None, is_some}
use Rattle.std.specs.List.{AllByRecursion}
use Rattle.ds2_value.specs.declared.ty.Ty.{Ty}
use Rattle.ds2_meaning.specs.declared.globals.Variable.{Variable}
use Rattle.ds2_meaning.specs.IsTyped.{NamesInScope, thread_parameters, AreTypedStatements}
use Rattle.ds2_meaning.specs.TypedStatement.{TypedStatement, Put, If, IfElse, Select, SelectValue, Block, Count, While, Until, TypedStatements, Finish, Next, TypedWhens, NoOtherwise, Otherwise, When}
use Rattle.ds2_code.specs.declared.instr.Instr.{Instr}
use Rattle.ds2_code.specs.declared.parts.ProgramParts.{ProgramParts}
use Rattle.ds2_code.specs.CodeBound.{jump_target, falls_through}
use Rattle.ds2_code.specs.InstructionTable.{kind_of}
use Rattle.ds2_code.specs.OperandTypes.{OperandTypes, CodeRole, OfUnit, OfMethod, types_behind, type_of_parameter}
use Rattle.ds2_gen.specs.CodeCells.{CodeCell, ParameterCell, Placement}
use Rattle.ds2_gen.specs.CodePieces.{ExitPoints, ReturnWay, JumpsToEnd, HandsBack}
use Rattle.ds2_gen.specs.ExpressionCode.{CodeNumbers}
use Rattle.ds2_gen.specs.StatementCode.{statements_size, statements_code, parameter_cell}
use Rattle.ds2_program_code.specs.KeptTypes.{all_types_kept}
use Rattle.ds2_program_code.specs.UsedConstants.{constants_of_body}
use Rattle.ds2_program_code.specs.TypedOperands.{HasCellOfType, HaveConstantsOfTypes, NamesHaveTypes}

-- ---- code with jumps

-- the operands behind an instruction: none where the run does not come from it
abbrev pub operands_after : Bool → OperandTypes → OperandTypes
operands_after true types = types
operands_after false types = []

-- a jump leads to an open place, where there is one
abbrev pub LeadsToOpen : (ℕ → Bool) → Option ℕ → Type 0
LeadsToOpen open_at None = Unit {0}
LeadsToOpen open_at (Some to) = open_at to ≡ true

-- code runs from operands of these types to those: each instruction finds what it needs, and each jump leads to an open place
abbrev pub OperandsRun : ProgramParts → List (Option Ty) → CodeRole → (ℕ → Bool) → OperandTypes → List Instr → OperandTypes → Type 0
OperandsRun code parameters role open_at types [] last = types ≡ last
OperandsRun code parameters role open_at types (i ∷ is) last =
    (next : OperandTypes) × (types_behind code parameters role i types ≡ Some next) × LeadsToOpen open_at (jump_target (kind_of i))
    × OperandsRun code parameters role open_at (operands_after (falls_through (kind_of i)) next) is last

-- a place of code, which begins at a number, is open where no operand stands before it
abbrev pub AreOpenPlaces : ProgramParts → List (Option Ty) → CodeRole → (ℕ → Bool) → OperandTypes → ℕ → List Instr → Type 0
AreOpenPlaces code parameters role open_at types at [] = Unit {0}
AreOpenPlaces code parameters role open_at types at (i ∷ is) =
    (types ≡ [] → open_at at ≡ true)
    × ((next : OperandTypes) → types_behind code parameters role i types ≡ Some next → AreOpenPlaces code parameters role open_at (operands_after (falls_through (kind_of i)) next) (at + 1) is)

-- ---- what statements need

-- code of a role is returned from so, with a value of this type where it has one
abbrev pub ReturnsOfRole : CodeRole → ReturnWay → Option Ty → Type 0
ReturnsOfRole OfUnit (JumpsToEnd end) returns = returns ≡ None
ReturnsOfRole OfUnit (HandsBack has_result) returns = ⊥
ReturnsOfRole (OfMethod signature) (JumpsToEnd end) returns = ⊥
ReturnsOfRole (OfMethod signature) (HandsBack true) returns = (signature.returns ≡ returns) × ((ty : Ty) × (returns ≡ Some ty))
ReturnsOfRole (OfMethod signature) (HandsBack false) returns = (signature.returns ≡ None) × (returns ≡ None)

-- where code is returned to is open
abbrev pub IsOpenReturn : (ℕ → Bool) → ReturnWay → Type 0
IsOpenReturn open_at (JumpsToEnd end) = open_at end ≡ true
IsOpenReturn open_at (HandsBack has_result) = Unit {0}

-- where code goes on that does not simply end is open
abbrev pub AreOpenExits : (ℕ → Bool) → ExitPoints → Type 0
AreOpenExits open_at exits = (open_at exits.leave ≡ true) × (open_at exits.continue ≡ true) × IsOpenReturn open_at exits.return

-- kept values from a number on have cells of these types
abbrev pub KeptHaveTypes : ProgramParts → CodeRole → Placement → ℕ → List Ty → Type 0
KeptHaveTypes code role placement kept [] = Unit {0}
KeptHaveTypes code role placement kept (t ∷ types) = HasCellOfType code role (Some (placement.kept_cell kept)) t × KeptHaveTypes code role placement (kept + 1) types

-- a parameter of an instance of a thread program has a place of its type, or none where the program does not read from the instance
abbrev pub IsTypedParameter : List (Option Ty) → Option CodeCell → Ty → Type 0
IsTypedParameter parameters None ty = Unit {0}
IsTypedParameter parameters (Some (ParameterCell n)) ty = type_of_parameter parameters n ≡ Some ty
IsTypedParameter parameters _ ty = ⊥

-- each output that statements may write to is there
abbrev pub OutputsAreThere : ProgramParts → NamesInScope → Type 0
OutputsAreThere code names = (n : ℕ) → n < names.outputs → IsTrue (is_some (slice_get code.outputs n))

-- the parameters of each instance of a thread program have cells of their types
abbrev pub StageCellsHaveTypes : List (Option Ty) → CodeNumbers → NamesInScope → Type 0
StageCellsHaveTypes parameters numbers names =
    (instance : List ℕ) (ps : List Variable) → thread_parameters names.threads instance ≡ Some ps → AllByRecursion (λ (v : Variable). IsTypedParameter parameters (parameter_cell numbers instance v.name) v.ty) ps

abbrev mutual
  -- no `put` of a statement has more than 1,000,000 items
  pub PutsAreShort : TypedStatement → Type 0
  PutsAreShort (Put place items) = IsTrue (nat_le (length items) 1000000)
  PutsAreShort (If place condition on) = PutsAreShort on
  PutsAreShort (IfElse place condition on off) = PutsAreShort on × PutsAreShort off
  PutsAreShort (Select place whens) = WhensAreShort whens
  PutsAreShort (SelectValue place value whens) = WhensAreShort whens
  PutsAreShort (Block place body) = AllPutsAreShort body
  PutsAreShort (Count place variable start end step body) = AllPutsAreShort body
  PutsAreShort (While place condition body) = AllPutsAreShort body
  PutsAreShort (Until place condition body) = AllPutsAreShort body
  PutsAreShort _ = Unit {0}

  -- likewise of statements
  pub AllPutsAreShort : TypedStatements → Type 0
  AllPutsAreShort Finish = Unit {0}
  AllPutsAreShort (Next first rest) = PutsAreShort first × AllPutsAreShort rest

  -- and of the parts of a `select`
  pub WhensAreShort : TypedWhens → Type 0
  WhensAreShort NoOtherwise = Unit {0}
  WhensAreShort (Otherwise s) = PutsAreShort s
  WhensAreShort (When tests s rest) = PutsAreShort s × WhensAreShort rest

-- the code of typed statements, whose names, kept values, outputs and constants have their types and places, runs from no operand to none, and
-- each of its jumps leads to where no operand stands
abbrev pub StatementsRun : Type 0
StatementsRun =
    (code : ProgramParts) (parameters : List (Option Ty)) (role : CodeRole) (numbers : CodeNumbers) (names : NamesInScope) (open_at : ℕ → Bool) (kept : ℕ) (loop : Bool) (body : TypedStatements) (at to : ℕ) (exits : ExitPoints)
    → NamesHaveTypes code role numbers names → OutputsAreThere code names → StageCellsHaveTypes parameters numbers names
    → at + statements_size numbers body ≡ to → open_at to ≡ true → AreOpenPlaces code parameters role open_at [] at (statements_code numbers at kept exits body) → AreOpenExits open_at exits → ReturnsOfRole role exits.return names.returns
    → KeptHaveTypes code role numbers.placement kept (all_types_kept body) → AllPutsAreShort body → HaveConstantsOfTypes code numbers (constants_of_body body) → AreTypedStatements names loop body
    → OperandsRun code parameters role open_at [] (statements_code numbers at kept exits body) []
