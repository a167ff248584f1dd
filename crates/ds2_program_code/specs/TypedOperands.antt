-- Which operands the code of typed expressions needs, by their types, and which it leaves.
use Rattle.std.specs.Prelude.{◌≡◌, IsTrue, ℕ, true, List, [], ◌∷◌, map, slice_get, Option, Some, None, is_some}
use Rattle.ds2_value.specs.Types.{in_bounds}
use Rattle.ds2_value.specs.declared.ty.Ty.{Ty}
use Rattle.ds2_value.specs.declared.value.Value.{Value}
use Rattle.ds2_value.specs.declared.value.Value.TheVariants as value
use Rattle.ds2_meaning.specs.declared.location.Reference.{Reference}
use Rattle.ds2_meaning.specs.Evaluation.{callee_home}
use Rattle.ds2_meaning.specs.HashObjects.{hash_named, iterator_named}
use Rattle.ds2_meaning.specs.IsTyped.{NamesInScope, reference_type, expression_type, IsTypedExpression}
use Rattle.ds2_meaning.specs.Method.{MethodTree}
use Rattle.ds2_meaning.specs.TypedExpression.{TypedExpression}
use Rattle.ds2_code.specs.declared.instr.Instr.{Instr}
use Rattle.ds2_code.specs.declared.parts.Constant.{Constant}
use Rattle.ds2_code.specs.declared.parts.HashPart.{HashPart}
use Rattle.ds2_code.specs.declared.parts.MethodPart.{MethodPart}
use Rattle.ds2_code.specs.declared.parts.ProgramParts.{ProgramParts}
use Rattle.ds2_code.specs.CodeBound.{jump_target, falls_through}
use Rattle.ds2_code.specs.InstructionTable.{kind_of}
use Rattle.ds2_code.specs.OperandTypes.{OperandTypes, CodeRole, slot_type, types_of_locals, types_behind}
use Rattle.ds2_gen.specs.CodeCells.{CodeCell, SlotCell, LocalCell, HashCell, IteratorCell}
use Rattle.ds2_gen.specs.ExpressionCode.{Callee, CodeNumbers, cell_of, object_cell, expression_code}
use Rattle.ds2_gen.specs.MethodCode.{parameter_part}
use Rattle.ds2_program_code.specs.UsedConstants.{UsedConstant, constants_used}

-- code without jumps that goes on behind its last instruction leads from operands of these types to those: each instruction finds what it
-- needs
abbrev pub OperandsLead : ProgramParts → List (Option Ty) → CodeRole → OperandTypes → List Instr → OperandTypes → Type 0
OperandsLead code parameters role types [] last = types ≡ last
OperandsLead code parameters role types (i ∷ is) last =
    (next : OperandTypes) × (types_behind code parameters role i types ≡ Some next) × (falls_through (kind_of i) ≡ true) × (jump_target (kind_of i) ≡ None) × OperandsLead code parameters role next is last

-- a cell of a variable has this type: a slot, or a local of code of a role
abbrev pub HasCellOfType : ProgramParts → CodeRole → Option CodeCell → Ty → Type 0
HasCellOfType code role (Some (SlotCell n)) ty = slot_type code.slots n ≡ Some ty
HasCellOfType code role (Some (LocalCell n)) ty = slice_get (types_of_locals role) n ≡ Some ty
HasCellOfType code role _ ty = ⊥

-- the code has a constant of this type under its number; null needs none
abbrev pub HasConstantOfType : ProgramParts → CodeNumbers → Value → Ty → Type 0
HasConstantOfType code numbers value.Null ty = Unit {0}
HasConstantOfType code numbers v ty = (c : Constant) × (slice_get code.constants (numbers.constant v ty) ≡ Some c) × (c.ty ≡ ty)

-- each of these constants does
abbrev pub HaveConstantsOfTypes : ProgramParts → CodeNumbers → List UsedConstant → Type 0
HaveConstantsOfTypes code numbers [] = Unit {0}
HaveConstantsOfTypes code numbers (c ∷ constants) = HasConstantOfType code numbers c.value c.ty × HaveConstantsOfTypes code numbers constants

-- a method has its number, and its part in the code, with its parameters and result
pub record HasTypedPart (code : ProgramParts) (numbers : CodeNumbers) (instance : Option (List ℕ)) (number : ℕ) (method : MethodTree) : Type 0 where
  pub callee : Callee
  pub part : MethodPart
  pub placed : numbers.callee (callee_home numbers.home instance) number ≡ Some callee
  pub coded : slice_get code.methods callee.number ≡ Some part
  pub parameters : part.parameters ≡ map parameter_part method.parameters
  pub returns : part.returns ≡ method.returns
  pub result : callee.has_result ≡ is_some method.returns

-- all that expressions may name has its type in the code, and each type is in bounds
pub record NamesHaveTypes (code : ProgramParts) (role : CodeRole) (numbers : CodeNumbers) (names : NamesInScope) : Type 0 where
  pub variables : (r : Reference) (ty : Ty) → reference_type names r ≡ Some ty → HasCellOfType code role (cell_of numbers r) ty
  pub bounds : (r : Reference) (ty : Ty) → reference_type names r ≡ Some ty → IsTrue (in_bounds ty)
  pub methods : (instance : Option (List ℕ)) (number : ℕ) (method : MethodTree) → slice_get (names.methods instance) number ≡ Some method → HasTypedPart code numbers instance number method
  pub results : (instance : Option (List ℕ)) (number : ℕ) (method : MethodTree) (ty : Ty) → slice_get (names.methods instance) number ≡ Some method → method.returns ≡ Some ty → IsTrue (in_bounds ty)
  pub hashes : (name : List ℕ) → IsTrue (is_some (hash_named names.objects.hashes name)) → (n : ℕ) × (object_cell numbers name ≡ Some (HashCell n)) × ((part : HashPart) × (slice_get code.hashes n ≡ Some part))
  pub iterators : (name : List ℕ) → IsTrue (is_some (iterator_named names.objects.iterators name)) → (n : ℕ) × (object_cell numbers name ≡ Some (IteratorCell n)) × ((hash : ℕ) × (slice_get code.iterators n ≡ Some hash))

-- the code of a typed expression leaves an operand of the expression's type above those that were there
abbrev pub ExpressionsLead : Type 0
ExpressionsLead =
    (code : ProgramParts) (parameters : List (Option Ty)) (role : CodeRole) (numbers : CodeNumbers) (names : NamesInScope) (e : TypedExpression) (below : OperandTypes)
    → NamesHaveTypes code role numbers names → HaveConstantsOfTypes code numbers (constants_used e) → IsTypedExpression names e
    → OperandsLead code parameters role below (expression_code numbers e) (expression_type e ∷ below)
