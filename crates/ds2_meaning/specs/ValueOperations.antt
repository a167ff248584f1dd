-- What operators and functions make of values, and which of them may fault.
use Rattle.std.specs.Prelude.{List, [], ◌∷◌, fold}
use Rattle.ds2_decimal.specs.Arithmetic as decimal
use Rattle.ds2_value.specs.Functions.{concat_of, first_of, lesser_of, greater_of}
use Rattle.ds2_value.specs.Operations.{of_decimals, of_decimal, truth_value, or_null_at_fault, of_one}
use Rattle.ds2_value.specs.Types.{assign_of}
use Rattle.ds2_value.specs.Value.{sum_of, difference_of, product_of, negative_of, truth_of, and_of, or_of, not_of}
use Rattle.ds2_value.specs.ValueFunctions.{function_value}
use Rattle.ds2_value.specs.declared.ty.Ty.{Ty}
use Rattle.ds2_value.specs.declared.ty.Ty.TheVariants.{BigInt, Decimal as DecimalOf, Char, Varchar}
use Rattle.ds2_value.specs.declared.value.Value.{Value}
use Rattle.ds2_value.specs.declared.value.Value.TheVariants.{Null}
use Rattle.ds2_meaning.specs.declared.expressions.Function.{Function}
use Rattle.ds2_meaning.specs.declared.expressions.Function.TheVariants as function
use Rattle.ds2_meaning.specs.declared.expressions.Operation.{Operation}
use Rattle.ds2_meaning.specs.declared.expressions.Operation.TheVariants as operation
use Rattle.ds2_meaning.specs.declared.expressions.Prefix.{Prefix}
use Rattle.ds2_meaning.specs.declared.expressions.Prefix.TheVariants as prefix
use Rattle.ds2_meaning.specs.RunState.{RunState, ExpressionEnd, Gives, attempt}

-- an operation of a chain on two operands; what can't fault is no event
abbrev pub operated : Operation → Value → Value → RunState → ExpressionEnd
operated operation.IntegerAdd a b w = attempt (sum_of a b) w
operated operation.IntegerSubtract a b w = attempt (difference_of a b) w
operated operation.IntegerMultiply a b w = attempt (product_of a b) w
operated operation.DecimalAdd a b w = attempt (of_decimals decimal.add a b) w
operated operation.DecimalSubtract a b w = attempt (of_decimals decimal.sub a b) w
operated operation.DecimalMultiply a b w = attempt (of_decimals decimal.mul a b) w
operated operation.DecimalDivide a b w = attempt (of_decimals decimal.div a b) w
operated operation.Concatenate a b w = Gives (concat_of (a ∷ b ∷ [])) w
operated operation.And a b w = Gives (truth_value (and_of (truth_of a) (truth_of b))) w
operated operation.Or a b w = Gives (truth_value (or_of (truth_of a) (truth_of b))) w

-- an operator before an operand
abbrev pub prefixed : Prefix → Value → RunState → ExpressionEnd
prefixed prefix.IntegerNegate a w = attempt (negative_of a) w
prefixed prefix.DecimalNegate a w = Gives (of_decimal decimal.neg a) w
prefixed prefix.Plus a w = Gives a w
prefixed prefix.Not a w = Gives (truth_value (not_of (truth_of a))) w

-- a value in a type of its kind: a decimal that is rescaled may overflow, a text is cut or filled
abbrev pub converted : Ty → Value → RunState → ExpressionEnd
converted BigInt a w = Gives a w
converted (DecimalOf p s) a w = attempt (assign_of a (DecimalOf p s)) w
converted (Char n) a w = Gives (or_null_at_fault (assign_of a (Char n))) w
converted (Varchar n) a w = Gives (or_null_at_fault (assign_of a (Varchar n))) w

-- a function of its arguments; one of values alone counts as what may fault
abbrev pub applied : Function → List Value → RunState → ExpressionEnd
applied (function.Value f) vs w = attempt (function_value f vs) w
applied function.Coalesce vs w = Gives (fold first_of Null vs) w
applied function.Least vs w = Gives (fold lesser_of Null vs) w
applied function.Greatest vs w = Gives (fold greater_of Null vs) w
applied function.Unchanged vs w = Gives (of_one (λ v. v) vs) w
