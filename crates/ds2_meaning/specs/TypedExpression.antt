-- Typed expressions, as plain data. The nodes are those of the code's tree.
use Rattle.std.specs.Prelude.{ℕ, Bool, List, Option}
use Rattle.ds2_value.specs.declared.comparison.Comparison.{Comparison}
use Rattle.ds2_value.specs.declared.hash_function.HashFunction.{HashFunction}
use Rattle.ds2_value.specs.declared.hash_function.IteratorFunction.{IteratorFunction}
use Rattle.ds2_value.specs.declared.ty.Ty.{Ty}
use Rattle.ds2_value.specs.declared.value.Value.{Value}
use Rattle.ds2_meaning.specs.declared.expressions.Operation.{Operation}
use Rattle.ds2_meaning.specs.declared.expressions.Prefix.{Prefix}
use Rattle.ds2_meaning.specs.declared.expressions.Function.{Function}
use Rattle.ds2_meaning.specs.declared.location.Reference.{Reference}

mutual
  -- an expression whose operands and types fit
  pub data TypedExpression : Type 0 where
    -- a constant
    Constant : Value → Ty → TypedExpression
    -- the value of a variable
    Variable : Reference → Ty → TypedExpression
    -- a BIGINT as DECIMAL(19,0)
    Widen : (operand : TypedExpression) → TypedExpression
    -- a value assigned to a type of its kind
    Convert : (operand : TypedExpression) → Ty → TypedExpression
    -- an operator before its operand
    Prefixed : Prefix → (operand : TypedExpression) → Ty → TypedExpression
    -- a first operand and further ones, from the left
    Chain : (first : TypedExpression) → (links : Links) → TypedExpression
    -- a comparison of two values
    Compared : Comparison → (left right : TypedExpression) → TypedExpression
    -- a function of its arguments
    Applied : Function → (arguments : TypedExpressions) → Ty → TypedExpression
    -- the result of a method: of an instance's package, or of the unit itself, by its number there
    Called : (instance : Option (List ℕ)) → (method : ℕ) → (arguments : TypedArguments) → Ty → TypedExpression
    -- the code that a hash object of the unit, or an iterator, answers a call with
    HashCalled : (hash : List ℕ) → HashFunction → TypedExpression
    IteratorCalled : (iterator : List ℕ) → IteratorFunction → TypedExpression

  -- the further operands of a chain, each with its operation, and whether the value before it is widened
  pub data Links : Type 0 where
    NoLink : Links
    Link : (widens : Bool) → Operation → (operand : TypedExpression) → Ty → (rest : Links) → Links

  -- expressions in order
  pub data TypedExpressions : Type 0 where
    NoExpression : TypedExpressions
    Then : (first : TypedExpression) → (rest : TypedExpressions) → TypedExpressions

  -- the arguments of a call: values, and variables that are handed in and out
  pub data TypedArguments : Type 0 where
    NoArgument : TypedArguments
    ByValue : (value : TypedExpression) → (rest : TypedArguments) → TypedArguments
    InOut : Reference → (rest : TypedArguments) → TypedArguments
