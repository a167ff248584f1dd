-- The functions that give a value for their operands alone, a row for each.
use Rattle.std.specs.Prelude.{ℕ, max, nat_le, Bool, true, false, ◌&&◌, if◌then◌else◌, List, [], ◌∷◌, reverse, Option, Some, None, Result, Ok}
use Rattle.ds2_decimal.specs.Arithmetic as decimal
use Rattle.ds2_value.specs.Functions.{is_null_of, length_of, trim_of, substr_of}
use Rattle.ds2_value.specs.Operations.{of_decimals, of_decimal, of_one, of_one_or_fault, of_two}
use Rattle.ds2_value.specs.Types.{same_ty}
use Rattle.ds2_value.specs.Value.{absolute_of, remainder_of}
use Rattle.ds2_value.specs.declared.fault.Fault.{Fault}
use Rattle.ds2_value.specs.declared.ty.Ty.{Ty}
use Rattle.ds2_value.specs.declared.ty.Ty.TheVariants.{BigInt, Decimal as DecimalOf, Char, Varchar}
use Rattle.ds2_value.specs.declared.value.Value.{Value}
use Rattle.ds2_value.specs.declared.value_function.OperandClass.{OperandClass}
use Rattle.ds2_value.specs.declared.value_function.OperandClass.TheVariants.{OneType, AnyDecimal, AnyText, AnyType}
use Rattle.ds2_value.specs.declared.value_function.ResultType.{ResultType}
use Rattle.ds2_value.specs.declared.value_function.ResultType.TheVariants.{Integer, WholeDecimal, AsOperand, GreaterScale, PartOfFirst}
use Rattle.ds2_value.specs.declared.value_function.ValueFunction.{ValueFunction}
use Rattle.ds2_value.specs.declared.value_function.ValueFunction.TheVariants.{IntegerAbsolute, IntegerModulo, DecimalAbsolute, DecimalModulo, Floor, Ceiling, IsNull, Length, Substring, SubstringFrom, Trim}

-- ---- operands

-- a DECIMAL of whatever digits
abbrev pub is_decimal_type : Ty → Bool
is_decimal_type (DecimalOf p s) = true
is_decimal_type _ = false

-- a CHAR or VARCHAR of whatever length
abbrev pub is_text_type : Ty → Bool
is_text_type (Char n) = true
is_text_type (Varchar n) = true
is_text_type _ = false

-- an operand of this type is what is needed
abbrev pub is_of_class : OperandClass → Ty → Bool
is_of_class (OneType needed) t = same_ty needed t
is_of_class AnyDecimal t = is_decimal_type t
is_of_class AnyText t = is_text_type t
is_of_class AnyType t = true

-- operands of these types are what is needed of each, as many of both
abbrev pub are_of_classes : List OperandClass → List Ty → Bool
are_of_classes [] [] = true
are_of_classes (c ∷ cs) (t ∷ types) = is_of_class c t && are_of_classes cs types
are_of_classes _ _ = false

-- ---- the types of results

-- one type, whatever the operands are
abbrev pub always : Ty → List Ty → Option Ty
always t operands = Some t

-- the type of the one operand
abbrev pub as_operand : List Ty → Option Ty
as_operand (t ∷ []) = Some t
as_operand _ = None

-- a DECIMAL of 38 digits and this scale, where it is in bounds
abbrev pub decimal_of_scale : ℕ → Option Ty
decimal_of_scale s = if nat_le s 38 then Some (DecimalOf 38 s) else None

-- a DECIMAL of a scale that the scales of two operands give
abbrev pub by_scales : (ℕ → ℕ → ℕ) → List Ty → Option Ty
by_scales scale (DecimalOf p s ∷ DecimalOf q t ∷ []) = decimal_of_scale (scale s t)
by_scales scale _ = None

-- the greatest number of a text's characters
abbrev pub text_length : Ty → ℕ
text_length (Char n) = n
text_length (Varchar n) = n
text_length _ = 0

-- a VARCHAR of the length of the first operand, a text
abbrev pub part_of_first : List Ty → Option Ty
part_of_first (Char n ∷ operands) = Some (Varchar n)
part_of_first (Varchar n ∷ operands) = Some (Varchar n)
part_of_first _ = None

-- the type of a result, by those of the operands
abbrev pub type_by : ResultType → List Ty → Option Ty
type_by Integer = always BigInt
type_by WholeDecimal = always (DecimalOf 38 0)
type_by AsOperand = as_operand
type_by GreaterScale = by_scales max
type_by PartOfFirst = part_of_first

-- ---- functions

-- a function of values: what it needs of its operands, the last one first; the type of its result; its value, or its fault; and its
-- number among the operations of code
pub record FunctionRow : Type 0 where
  pub operands : List OperandClass
  pub result : ResultType
  pub gives : List Value → Result Value Fault
  pub code : ℕ

-- all functions
abbrev pub function_row : ValueFunction → FunctionRow
function_row IntegerAbsolute = record { operands = OneType BigInt ∷ []; result = Integer; gives = of_one_or_fault absolute_of; code = 15 }
function_row IntegerModulo = record { operands = OneType BigInt ∷ OneType BigInt ∷ []; result = Integer; gives = of_two remainder_of; code = 16 }
function_row DecimalAbsolute = record { operands = AnyDecimal ∷ []; result = AsOperand; gives = λ vs. Ok (of_one (of_decimal decimal.abs) vs); code = 22 }
function_row DecimalModulo = record { operands = AnyDecimal ∷ AnyDecimal ∷ []; result = GreaterScale; gives = of_two (of_decimals decimal.modulo); code = 23 }
function_row Floor = record { operands = AnyDecimal ∷ []; result = WholeDecimal; gives = λ vs. Ok (of_one (of_decimal decimal.floor) vs); code = 24 }
function_row Ceiling = record { operands = AnyDecimal ∷ []; result = WholeDecimal; gives = λ vs. Ok (of_one (of_decimal decimal.ceil) vs); code = 25 }
function_row IsNull = record { operands = AnyType ∷ []; result = Integer; gives = λ vs. Ok (is_null_of vs); code = 34 }
function_row Length = record { operands = AnyText ∷ []; result = Integer; gives = λ vs. Ok (length_of vs); code = 39 }
function_row Substring = record { operands = OneType BigInt ∷ OneType BigInt ∷ AnyText ∷ []; result = PartOfFirst; gives = substr_of; code = 40 }
function_row SubstringFrom = record { operands = OneType BigInt ∷ AnyText ∷ []; result = PartOfFirst; gives = substr_of; code = 41 }
function_row Trim = record { operands = AnyText ∷ []; result = PartOfFirst; gives = λ vs. Ok (trim_of vs); code = 42 }

-- the type of a function's result for arguments of these types, in order, where it takes them
abbrev pub function_type : ValueFunction → List Ty → Option Ty
function_type f types = if are_of_classes (function_row f).operands (reverse types) then type_by (function_row f).result types else None

-- what a function gives for its arguments
abbrev pub function_value : ValueFunction → List Value → Result Value Fault
function_value f vs = (function_row f).gives vs
