-- The expressions and statements whose variables, constants, methods and objects have their places in the code.
use Rattle.std.specs.Prelude.{◌≡◌, ℕ, true, false, List, [], ◌∷◌, length, slice_get, Option, Some, None, pos}
use Rattle.ds2_value.specs.ValueFunctions.{function_row}
use Rattle.ds2_value.specs.declared.ty.Ty.{Ty}
use Rattle.ds2_value.specs.declared.ty.Ty.TheVariants.{BigInt}
use Rattle.ds2_value.specs.declared.value.Value.{Value}
use Rattle.ds2_value.specs.declared.value.Value.TheVariants as value
use Rattle.ds2_meaning.specs.declared.expressions.Function.{Function}
use Rattle.ds2_meaning.specs.declared.expressions.Function.TheVariants as function
use Rattle.ds2_meaning.specs.declared.location.Global.TheVariants.{Named}
use Rattle.ds2_meaning.specs.declared.location.Reference.{Reference}
use Rattle.ds2_meaning.specs.declared.location.Reference.TheVariants.{At}
use Rattle.ds2_meaning.specs.Evaluation.{callee_home}
use Rattle.ds2_meaning.specs.Location.{Home}
use Rattle.ds2_meaning.specs.TypedExpression.{TypedExpression, Constant, Variable, Widen, Convert, Prefixed, Chain, Compared, Applied, Called, HashCalled, IteratorCalled, Links, NoLink, Link, TypedExpressions, NoExpression, Then, TypedArguments, NoArgument, ByValue, InOut}
use Rattle.ds2_meaning.specs.TypedStatement.{TypedStatement, Empty, Assign, Invoke, Evaluate, SetParameters, ParameterValue, Construct, Leave, Continue, Return, ReturnValue, Output, Put, If, IfElse, Select, SelectValue, Block, Count, While, Until, TypedStatements, Finish, Next, TypedWhens, NoOtherwise, Otherwise, When, Item, Text, Shown, Labelled}
use Rattle.ds2_code.specs.declared.parts.MethodPart.{MethodPart}
use Rattle.ds2_code.specs.declared.parts.OutputPart.{OutputPart}
use Rattle.ds2_code.specs.declared.parts.ParameterPart.{ParameterPart}
use Rattle.ds2_code.specs.declared.parts.ProgramParts.{ProgramParts}
use Rattle.ds2_code.specs.CodeRun.{column_slots}
use Rattle.ds2_code.specs.Desk.{constant_value}
use Rattle.ds2_gen.specs.CodeCells.{CodeCell, SlotCell, ParameterCell, IsValueCell}
use Rattle.ds2_gen.specs.CodePieces.{ReturnWay, JumpsToEnd, HandsBack}
use Rattle.ds2_gen.specs.CoveredObjects.{HasHash, HasIterator}
use Rattle.ds2_gen.specs.ExpressionCode.{Callee, CodeNumbers, cell_of, expressions_count}
use Rattle.ds2_gen.specs.StatementCode.{text_type, label_of, parameter_cell}

-- the code has a constant under its number; null needs none
abbrev pub HasConstant : ProgramParts → CodeNumbers → Value → Ty → Type 0
HasConstant code numbers value.Null ty = Unit {0}
HasConstant code numbers v ty = constant_value (numbers.constant v ty) code.constants ≡ v

-- a variable has a cell of a value
abbrev pub HasValueCell : CodeNumbers → Reference → Type 0
HasValueCell numbers variable = (c : CodeCell) × (cell_of numbers variable ≡ Some c) × IsValueCell c

-- a body is returned from without a value
abbrev pub ReturnsNothing : ReturnWay → Type 0
ReturnsNothing (JumpsToEnd end) = Unit {0}
ReturnsNothing (HandsBack true) = ⊥
ReturnsNothing (HandsBack false) = Unit {0}

-- a function takes so many arguments
abbrev pub TakesCount : Function → ℕ → Type 0
TakesCount (function.Value f) n = n ≡ length (function_row f).operands
TakesCount function.Coalesce n = Unit {0}
TakesCount function.Least n = Unit {0}
TakesCount function.Greatest n = Unit {0}
TakesCount function.Unchanged n = n ≡ 1

-- these slots are those of the program's variables of these names, in order
abbrev pub AreSourceSlots : CodeNumbers → List (List ℕ) → List ℕ → Type 0
AreSourceSlots numbers [] [] = Unit {0}
AreSourceSlots numbers (name ∷ names) (n ∷ slots) = (cell_of numbers (At (Named name)) ≡ Some (SlotCell n)) × AreSourceSlots numbers names slots
AreSourceSlots numbers _ _ = ⊥

-- the output of a number, and in the code the slots of its columns
pub record HasOutput (code : ProgramParts) (numbers : CodeNumbers) (n : ℕ) : Type 0 where
  pub sources : List (List ℕ)
  pub part : OutputPart
  pub meant : slice_get numbers.outputs n ≡ Some sources
  pub coded : slice_get code.outputs n ≡ Some part
  pub slots : AreSourceSlots numbers sources (column_slots part)

-- each of these outputs
abbrev pub HaveOutputs : ProgramParts → CodeNumbers → List ℕ → Type 0
HaveOutputs code numbers [] = Unit {0}
HaveOutputs code numbers (n ∷ ns) = HasOutput code numbers n × HaveOutputs code numbers ns

-- arguments are values and variables as these parameters ask for them
abbrev pub ArgumentsFit : List ParameterPart → TypedArguments → Type 0
ArgumentsFit [] NoArgument = Unit {0}
ArgumentsFit (p ∷ ps) (ByValue e rest) = (p.is_in_out ≡ false) × ArgumentsFit ps rest
ArgumentsFit (p ∷ ps) (InOut variable rest) = (p.is_in_out ≡ true) × ArgumentsFit ps rest
ArgumentsFit _ _ = ⊥

-- a method of a home has its number, and its parameters in the code are those that arguments fit
pub record HasCallee (code : ProgramParts) (numbers : CodeNumbers) (home : Home) (method : ℕ) (arguments : TypedArguments) : Type 0 where
  pub callee : Callee
  pub part : MethodPart
  pub placed : numbers.callee home method ≡ Some callee
  pub coded : slice_get code.methods callee.number ≡ Some part
  pub fit : ArgumentsFit part.parameters arguments

-- a parameter of an instance of a thread program has its place, or, where the program does not read from the instance, none
abbrev pub IsParameterCell : Option CodeCell → Type 0
IsParameterCell None = Unit {0}
IsParameterCell (Some (ParameterCell n)) = Unit {0}
IsParameterCell _ = ⊥

module _ (code : ProgramParts) (numbers : CodeNumbers) where
  abbrev mutual
    -- an expression in whose parts each constant, variable, method, hash object and iterator has its place
    pub IsCoveredExpression : TypedExpression → Type 0
    IsCoveredExpression (Constant v ty) = HasConstant code numbers v ty
    IsCoveredExpression (Variable variable ty) = HasValueCell numbers variable
    IsCoveredExpression (Widen e) = IsCoveredExpression e
    IsCoveredExpression (Convert e ty) = IsCoveredExpression e
    IsCoveredExpression (Prefixed p e ty) = IsCoveredExpression e
    IsCoveredExpression (Chain first links) = IsCoveredExpression first × AreCoveredLinks links
    IsCoveredExpression (Compared comparison left right) = IsCoveredExpression left × IsCoveredExpression right
    IsCoveredExpression (Applied f arguments ty) = TakesCount f (expressions_count arguments) × AreCoveredExpressions arguments
    IsCoveredExpression (Called instance method arguments ty) =
        (c : HasCallee code numbers (callee_home numbers.home instance) method arguments) × (c.callee.has_result ≡ true) × AreCoveredArguments arguments
    IsCoveredExpression (HashCalled hash f) = HasHash code numbers hash
    IsCoveredExpression (IteratorCalled iterator f) = HasIterator code numbers iterator

    -- the arguments of a call
    pub AreCoveredArguments : TypedArguments → Type 0
    AreCoveredArguments NoArgument = Unit {0}
    AreCoveredArguments (ByValue e rest) = IsCoveredExpression e × AreCoveredArguments rest
    AreCoveredArguments (InOut variable rest) = HasValueCell numbers variable × AreCoveredArguments rest

    -- expressions in order
    pub AreCoveredExpressions : TypedExpressions → Type 0
    AreCoveredExpressions NoExpression = Unit {0}
    AreCoveredExpressions (Then e rest) = IsCoveredExpression e × AreCoveredExpressions rest

    -- the further operands of a chain
    pub AreCoveredLinks : Links → Type 0
    AreCoveredLinks NoLink = Unit {0}
    AreCoveredLinks (Link widens o e to rest) = IsCoveredExpression e × AreCoveredLinks rest

  -- the items of a line
  abbrev pub AreCoveredItems : List Item → Type 0
  AreCoveredItems [] = Unit {0}
  AreCoveredItems (Text t ∷ items) = HasConstant code numbers (value.Txt t) (text_type t) × AreCoveredItems items
  AreCoveredItems (Shown e ∷ items) = IsCoveredExpression e × AreCoveredItems items
  AreCoveredItems (Labelled name e ∷ items) = HasConstant code numbers (value.Txt (label_of name)) (text_type (label_of name)) × IsCoveredExpression e × AreCoveredItems items

  -- the step of a counted loop, and the constant that stands for it or that it is compared with
  abbrev pub IsCoveredStep : Option TypedExpression → Type 0
  IsCoveredStep None = HasConstant code numbers (value.Int (pos 1)) BigInt
  IsCoveredStep (Some step) = IsCoveredExpression step × HasConstant code numbers (value.Int (pos 0)) BigInt

  -- a call as a statement
  abbrev pub IsCoveredCall : Home → ℕ → TypedArguments → Type 0
  IsCoveredCall home method arguments = HasCallee code numbers home method arguments × AreCoveredArguments arguments

  -- a call of the constructor of an instance, where its package has one
  abbrev pub IsCoveredConstructor : List ℕ → Option ℕ → TypedArguments → Type 0
  IsCoveredConstructor instance None arguments = Unit {0}
  IsCoveredConstructor instance (Some method) arguments = IsCoveredCall (Some instance) method arguments

  -- the parameters of an instance of a thread program, and their values
  abbrev pub AreCoveredParameters : List ℕ → List ParameterValue → Type 0
  AreCoveredParameters instance [] = Unit {0}
  AreCoveredParameters instance (p ∷ ps) =
      IsParameterCell (parameter_cell numbers instance p.parameter) × IsCoveredExpression p.value × AreCoveredParameters instance ps

  abbrev mutual
    -- a statement in whose parts each constant, variable, output, method, hash object and iterator has its place, in a body that is
    -- returned from so
    pub IsCoveredStatement : ReturnWay → TypedStatement → Type 0
    IsCoveredStatement way (Empty place) = Unit {0}
    IsCoveredStatement way (Assign place variable e) = HasValueCell numbers variable × IsCoveredExpression e
    IsCoveredStatement way (Evaluate place e) = IsCoveredExpression e
    IsCoveredStatement way (Leave place) = Unit {0}
    IsCoveredStatement way (Continue place) = Unit {0}
    IsCoveredStatement way (Return place) = ReturnsNothing way
    IsCoveredStatement way (ReturnValue place e) = (way ≡ HandsBack true) × IsCoveredExpression e
    IsCoveredStatement way (Output place outputs) = HaveOutputs code numbers outputs
    IsCoveredStatement way (Put place items) = AreCoveredItems items
    IsCoveredStatement way (If place condition on) = IsCoveredExpression condition × IsCoveredStatement way on
    IsCoveredStatement way (IfElse place condition on off) =
        IsCoveredExpression condition × IsCoveredStatement way on × IsCoveredStatement way off
    IsCoveredStatement way (Block place body) = AreCoveredStatements way body
    IsCoveredStatement way (While place condition body) = IsCoveredExpression condition × AreCoveredStatements way body
    IsCoveredStatement way (Until place condition body) = IsCoveredExpression condition × AreCoveredStatements way body
    IsCoveredStatement way (Select place whens) = AreCoveredWhens way whens
    IsCoveredStatement way (SelectValue place e whens) = IsCoveredExpression e × AreCoveredWhens way whens
    IsCoveredStatement way (Count place variable start end step body) =
        HasValueCell numbers variable × IsCoveredExpression start × IsCoveredExpression end × IsCoveredStep step × AreCoveredStatements way body
    IsCoveredStatement way (Invoke place instance method arguments) = IsCoveredCall (callee_home numbers.home instance) method arguments
    IsCoveredStatement way (SetParameters place instance values) = AreCoveredParameters instance values
    IsCoveredStatement way (Construct place instance method arguments) = IsCoveredConstructor instance method arguments

    -- statements in order
    pub AreCoveredStatements : ReturnWay → TypedStatements → Type 0
    AreCoveredStatements way Finish = Unit {0}
    AreCoveredStatements way (Next first rest) = IsCoveredStatement way first × AreCoveredStatements way rest

    -- the parts of a `select`
    pub AreCoveredWhens : ReturnWay → TypedWhens → Type 0
    AreCoveredWhens way NoOtherwise = Unit {0}
    AreCoveredWhens way (Otherwise s) = IsCoveredStatement way s
    AreCoveredWhens way (When tests s rest) = AreCoveredExpressions tests × IsCoveredStatement way s × AreCoveredWhens way rest
