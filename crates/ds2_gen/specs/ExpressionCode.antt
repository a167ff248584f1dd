-- The instructions of an expression.
use Rattle.std.specs.Prelude.{ℕ, suc, Bool, true, false, List, [], ◌∷◌, ◌++◌, Option, Some, None}
use Rattle.ds2_value.specs.declared.comparison.Comparison.{Comparison}
use Rattle.ds2_value.specs.declared.hash_function.HashFunction.{HashFunction}
use Rattle.ds2_value.specs.declared.hash_function.IteratorFunction.{IteratorFunction}
use Rattle.ds2_value.specs.declared.ty.Ty.{Ty}
use Rattle.ds2_value.specs.declared.ty.Ty.TheVariants.{BigInt, Decimal as DecimalOf, Char, Varchar}
use Rattle.ds2_value.specs.declared.value.Value.{Value}
use Rattle.ds2_value.specs.declared.value.Value.TheVariants as value
use Rattle.ds2_meaning.specs.declared.expressions.Function.{Function}
use Rattle.ds2_meaning.specs.declared.expressions.Function.TheVariants as function
use Rattle.ds2_meaning.specs.declared.expressions.Operation.{Operation}
use Rattle.ds2_meaning.specs.declared.expressions.Operation.TheVariants as operation
use Rattle.ds2_meaning.specs.declared.expressions.Prefix.{Prefix}
use Rattle.ds2_meaning.specs.declared.expressions.Prefix.TheVariants as prefix
use Rattle.ds2_meaning.specs.declared.location.Reference.{Reference}
use Rattle.ds2_meaning.specs.Evaluation.{callee_home}
use Rattle.ds2_meaning.specs.HashObjects.{DeclaredObjects, object_at}
use Rattle.ds2_meaning.specs.IsTyped.{TypeClass, Integers, Decimals, Texts, class_of, expression_type}
use Rattle.ds2_meaning.specs.Location.{Home}
use Rattle.ds2_meaning.specs.TypedExpression.{TypedExpression, Constant, Variable, Widen, Convert, Prefixed, Chain, Compared, Applied, Called, HashCalled, IteratorCalled, Links, NoLink, Link, TypedExpressions, NoExpression, Then, TypedArguments, NoArgument, ByValue, InOut}
use Rattle.ds2_code.specs.declared.instr.Instr.{Instr}
use Rattle.ds2_code.specs.declared.instr.Instr.TheVariants as instr
use Rattle.ds2_gen.specs.CodeCells.{GlobalAt, CodeCell, SlotCell, LocalCell, HashCell, IteratorCell, ParameterCell, Placement, nameable_of}

-- a method as code calls it: its number there, and whether it hands back a result
pub record Callee : Type 0 where
  pub number : ℕ
  pub has_result : Bool

-- what the code of a body finds fixed: whose code it is, its hash objects and iterators, the variables of each output's columns,
-- where things are kept, the number of each constant, and the methods of each home, by their numbers there
pub record CodeNumbers : Type 0 where
  pub home : Home
  pub objects : DeclaredObjects
  pub outputs : List (List (List ℕ))
  pub placement : Placement
  pub constant : Value → Ty → ℕ
  pub callee : Home → ℕ → Option Callee

-- pushes a constant
abbrev pub constant_instr : CodeNumbers → Value → Ty → Instr
constant_instr numbers value.Null ty = instr.Null ty
constant_instr numbers v ty = instr.Const (numbers.constant v ty)

-- pushes what a cell of a value holds; of another cell, which no variable has, nothing that means anything
abbrev pub load_instr : Option CodeCell → Ty → Instr
load_instr (Some (SlotCell n)) ty = instr.GLoad n
load_instr (Some (LocalCell n)) ty = instr.LLoad n
load_instr _ ty = instr.Null ty

-- where a variable is kept
abbrev pub cell_of : CodeNumbers → Reference → Option CodeCell
cell_of numbers variable = numbers.placement.cell (nameable_of numbers.home variable)

-- pops a value into a cell of a value; into another cell, which no variable has, nothing
abbrev pub store_instr : Option CodeCell → Instr
store_instr (Some (SlotCell n)) = instr.GStore n
store_instr (Some (LocalCell n)) = instr.LStore n
store_instr (Some (ParameterCell n)) = instr.SetParm n
store_instr _ = instr.DropTop

-- calls a method; one that is not there is never called
abbrev pub call_instr : Option Callee → Instr
call_instr (Some callee) = instr.Call callee.number
call_instr None = instr.NoWhen

-- where a hash object or an iterator is kept
abbrev pub object_cell : CodeNumbers → List ℕ → Option CodeCell
object_cell numbers name = numbers.placement.cell (GlobalAt (object_at numbers.home name))

-- calls a hash object; one that is not there is never called
abbrev pub hash_instr : Option CodeCell → HashFunction → Instr
hash_instr (Some (HashCell n)) f = instr.HCall n f
hash_instr _ f = instr.NoWhen

-- calls an iterator; one that is not there is never called
abbrev pub iterator_instr : Option CodeCell → IteratorFunction → Instr
iterator_instr (Some (IteratorCell n)) f = instr.ICall n f
iterator_instr _ f = instr.NoWhen

-- a value of a kind of types becomes one of this type
abbrev pub conversion_code : Ty → List Instr
conversion_code BigInt = []
conversion_code (DecimalOf p s) = instr.Rescale p s ∷ []
conversion_code (Char n) = instr.Pad n ∷ []
conversion_code (Varchar n) = instr.Cut n ∷ []

-- a number of this type becomes a truth: a DECIMAL 1 or 0, while a BIGINT is one already
abbrev pub truth_code : Ty → List Instr
truth_code (DecimalOf p s) = instr.DTruth ∷ []
truth_code _ = []

-- an operator before an operand of this type
abbrev pub prefix_code : Prefix → Ty → List Instr
prefix_code prefix.IntegerNegate ty = instr.INeg ∷ []
prefix_code prefix.DecimalNegate ty = instr.DNeg ∷ []
prefix_code prefix.Plus ty = []
prefix_code prefix.Not ty = truth_code ty ++ instr.Not ∷ []

-- an operation of a chain
abbrev pub operation_instr : Operation → Instr
operation_instr operation.IntegerAdd = instr.IAdd
operation_instr operation.IntegerSubtract = instr.ISub
operation_instr operation.IntegerMultiply = instr.IMul
operation_instr operation.DecimalAdd = instr.DAdd
operation_instr operation.DecimalSubtract = instr.DSub
operation_instr operation.DecimalMultiply = instr.DMul
operation_instr operation.DecimalDivide = instr.DDiv
operation_instr operation.Concatenate = instr.Cat
operation_instr operation.And = instr.And
operation_instr operation.Or = instr.Or

-- an operand of this type, as the operation takes it
abbrev pub operand_code : Operation → Ty → List Instr
operand_code operation.And ty = truth_code ty
operand_code operation.Or ty = truth_code ty
operand_code _ ty = []

-- a value that is widened, where it is
abbrev pub widening_code : Bool → List Instr
widening_code true = instr.IToD ∷ []
widening_code false = []

-- its type then
abbrev pub widened_type : Bool → Ty → Ty
widened_type true ty = DecimalOf 19 0
widened_type false ty = ty

-- the left operand of a link
abbrev pub left_operand_code : Bool → Operation → Ty → List Instr
left_operand_code widens o ty = widening_code widens ++ operand_code o (widened_type widens ty)

-- a comparison of two values of a kind
abbrev pub comparison_instr : TypeClass → Comparison → Instr
comparison_instr Integers comparison = instr.ICmp comparison
comparison_instr Decimals comparison = instr.DCmp comparison
comparison_instr Texts comparison = instr.TCmp comparison

-- a function of so many arguments
abbrev pub function_code : Function → ℕ → List Instr
function_code (function.Value f) n = instr.Apply f ∷ []
function_code function.Coalesce n = instr.Choose n ∷ []
function_code function.Least n = instr.Least n ∷ []
function_code function.Greatest n = instr.Greatest n ∷ []
function_code function.Unchanged n = []

-- how many expressions there are
abbrev pub expressions_count : TypedExpressions → ℕ
expressions_count NoExpression = 0
expressions_count (Then e rest) = suc (expressions_count rest)

module _ (numbers : CodeNumbers) where
  -- behind a call the variables that were handed in and out get their last values, of which the last one lies on top
  abbrev pub back_code : TypedArguments → List Instr
  back_code NoArgument = []
  back_code (ByValue e rest) = back_code rest
  back_code (InOut variable rest) = back_code rest ++ store_instr (cell_of numbers variable) ∷ []

  abbrev mutual
    -- the instructions of an expression, each operand from the left and then its operation
    pub expression_code : TypedExpression → List Instr
    expression_code (Constant v ty) = constant_instr numbers v ty ∷ []
    expression_code (Variable variable ty) = load_instr (cell_of numbers variable) ty ∷ []
    expression_code (Widen e) = expression_code e ++ instr.IToD ∷ []
    expression_code (Convert e ty) = expression_code e ++ conversion_code ty
    expression_code (Prefixed p e ty) = expression_code e ++ prefix_code p (expression_type e)
    expression_code (Chain first links) = expression_code first ++ links_code (expression_type first) links
    expression_code (Compared comparison left right) =
        expression_code left ++ (expression_code right ++ comparison_instr (class_of (expression_type left)) comparison ∷ [])
    expression_code (Applied f arguments ty) = expressions_code arguments ++ function_code f (expressions_count arguments)
    expression_code (Called instance method arguments ty) =
        arguments_code arguments ++ (call_instr (numbers.callee (callee_home numbers.home instance) method) ∷ back_code arguments)
    expression_code (HashCalled hash f) = hash_instr (object_cell numbers hash) f ∷ []
    expression_code (IteratorCalled iterator f) = iterator_instr (object_cell numbers iterator) f ∷ []

    -- the instructions of arguments, in order; a variable that is handed in and out is loaded where it stands
    pub arguments_code : TypedArguments → List Instr
    arguments_code NoArgument = []
    arguments_code (ByValue e rest) = expression_code e ++ arguments_code rest
    arguments_code (InOut variable rest) = load_instr (cell_of numbers variable) BigInt ∷ arguments_code rest

    -- the instructions of several expressions, in order
    pub expressions_code : TypedExpressions → List Instr
    expressions_code NoExpression = []
    expressions_code (Then e rest) = expression_code e ++ expressions_code rest

    -- the instructions of the further operands of a chain, behind operands of this type
    pub links_code : Ty → Links → List Instr
    links_code ty NoLink = []
    links_code ty (Link widens o e to rest) =
        left_operand_code widens o ty ++ (expression_code e ++ (operand_code o (expression_type e) ++ (operation_instr o ∷ links_code to rest)))

  -- the instructions of a call of a method of a home: its arguments, the call, and what is handed back
  abbrev pub method_call_code : Home → ℕ → TypedArguments → List Instr
  method_call_code home method arguments = arguments_code arguments ++ (call_instr (numbers.callee home method) ∷ back_code arguments)

  -- the instructions of a condition: an expression and, where its value is a DECIMAL, its truth
  abbrev pub condition_code : TypedExpression → List Instr
  condition_code e = expression_code e ++ truth_code (expression_type e)
