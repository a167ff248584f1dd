-- What is left of the types of operands when some are taken off.
use Rattle.std.specs.Prelude.{ℕ, ◌+◌, max, Bool, true, false, if◌then◌else◌, List, [], ◌∷◌, Option, Some, None}
use Rattle.ds2_value.specs.ValueFunctions.{is_of_class}
use Rattle.ds2_value.specs.declared.value_function.OperandClass.{OperandClass}
use Rattle.ds2_code.specs.OperandTypes.{OperandTypes}
use Rattle.ds2_valid_code.specs.declared.results.ScaleRule.{ScaleRule}
use Rattle.ds2_valid_code.specs.declared.results.ScaleRule.TheVariants as rule

-- no operand stands
abbrev pub stands_empty : OperandTypes → Bool
stands_empty [] = true
stands_empty (t ∷ types) = false

-- the operands below those that were taken off, the topmost one as the first class says; none where they do not suffice
abbrev pub below_classes : List OperandClass → OperandTypes → Option OperandTypes
below_classes [] types = Some types
below_classes (c ∷ cs) [] = None
below_classes (c ∷ cs) (t ∷ types) = if is_of_class c t then below_classes cs types else None

-- the scale that an operation leaves for two scales
abbrev pub scale_by : ScaleRule → ℕ → ℕ → ℕ
scale_by rule.Greater s t = max s t
scale_by rule.Sum s t = s + t
scale_by rule.Quotient s t = max 6 (max s t)
