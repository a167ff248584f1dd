-- The constants that the code of typed statements pushes, each with its type.
use Rattle.std.specs.Prelude.{List, [], ◌∷◌, ◌++◌, Option, Some, None, pos}
use Rattle.ds2_value.specs.declared.ty.Ty.{Ty}
use Rattle.ds2_value.specs.declared.ty.Ty.TheVariants.{BigInt}
use Rattle.ds2_value.specs.declared.value.Value.{Value}
use Rattle.ds2_value.specs.declared.value.Value.TheVariants.{Int, Txt}
use Rattle.ds2_meaning.specs.TypedExpression.{TypedExpression, Constant, Variable, Widen, Convert, Prefixed, Chain, Compared, Applied, Called, HashCalled, IteratorCalled, Links, NoLink, Link, TypedExpressions, NoExpression, Then, TypedArguments, NoArgument, ByValue, InOut}
use Rattle.ds2_meaning.specs.TypedStatement.{TypedStatement, Assign, Invoke, Evaluate, SetParameters, ParameterValue, Construct, ReturnValue, Put, If, IfElse, Select, SelectValue, Block, Count, While, Until, TypedStatements, Finish, Next, TypedWhens, NoOtherwise, Otherwise, When, Item, Text, Shown, Labelled}
use Rattle.ds2_code.specs.declared.parts.ProgramParts.{ProgramParts}
use Rattle.ds2_gen.specs.CoveredForms.{HasConstant}
use Rattle.ds2_gen.specs.ExpressionCode.{CodeNumbers}
use Rattle.ds2_gen.specs.StatementCode.{text_type, label_of}

-- a constant with its type
pub record UsedConstant : Type 0 where
  pub value : Value
  pub ty : Ty

abbrev mutual
  -- those of an expression
  pub constants_used : TypedExpression → List UsedConstant
  constants_used (Constant v ty) = record { value = v; ty = ty } ∷ []
  constants_used (Variable variable ty) = []
  constants_used (Widen e) = constants_used e
  constants_used (Convert e ty) = constants_used e
  constants_used (Prefixed p e ty) = constants_used e
  constants_used (Chain first links) = constants_used first ++ constants_of_links links
  constants_used (Compared comparison left right) = constants_used left ++ constants_used right
  constants_used (Applied f arguments ty) = constants_of_all arguments
  constants_used (Called instance method arguments ty) = constants_of_arguments arguments
  constants_used (HashCalled hash f) = []
  constants_used (IteratorCalled iterator f) = []

  -- those of the further operands of a chain
  pub constants_of_links : Links → List UsedConstant
  constants_of_links NoLink = []
  constants_of_links (Link widens o e ty rest) = constants_used e ++ constants_of_links rest

  -- those of expressions in order
  pub constants_of_all : TypedExpressions → List UsedConstant
  constants_of_all NoExpression = []
  constants_of_all (Then e rest) = constants_used e ++ constants_of_all rest

  -- those of arguments
  pub constants_of_arguments : TypedArguments → List UsedConstant
  constants_of_arguments NoArgument = []
  constants_of_arguments (ByValue e rest) = constants_used e ++ constants_of_arguments rest
  constants_of_arguments (InOut variable rest) = constants_of_arguments rest

-- those of a line: its texts, and labels before values
abbrev pub constants_of_items : List Item → List UsedConstant
constants_of_items [] = []
constants_of_items (Text t ∷ items) = record { value = Txt t; ty = text_type t } ∷ constants_of_items items
constants_of_items (Shown e ∷ items) = constants_used e ++ constants_of_items items
constants_of_items (Labelled name e ∷ items) = record { value = Txt (label_of name); ty = text_type (label_of name) } ∷ (constants_used e ++ constants_of_items items)

-- those of the step of a counted loop: 1 where none was given, and else 0, with which it is compared
abbrev pub constants_of_step : Option TypedExpression → List UsedConstant
constants_of_step None = record { value = Int (pos 1); ty = BigInt } ∷ []
constants_of_step (Some step) = record { value = Int (pos 0); ty = BigInt } ∷ constants_used step

-- those of the parameters of a thread program
abbrev pub constants_of_parameters : List ParameterValue → List UsedConstant
constants_of_parameters [] = []
constants_of_parameters (p ∷ ps) = constants_used p.value ++ constants_of_parameters ps

abbrev mutual
  -- those of a statement
  pub constants_of_statement : TypedStatement → List UsedConstant
  constants_of_statement (Assign place variable e) = constants_used e
  constants_of_statement (Invoke place instance method arguments) = constants_of_arguments arguments
  constants_of_statement (Evaluate place e) = constants_used e
  constants_of_statement (SetParameters place instance values) = constants_of_parameters values
  constants_of_statement (Construct place instance method arguments) = constants_of_arguments arguments
  constants_of_statement (ReturnValue place e) = constants_used e
  constants_of_statement (Put place items) = constants_of_items items
  constants_of_statement (If place condition on) = constants_used condition ++ constants_of_statement on
  constants_of_statement (IfElse place condition on off) = constants_used condition ++ (constants_of_statement on ++ constants_of_statement off)
  constants_of_statement (Select place whens) = constants_of_whens whens
  constants_of_statement (SelectValue place e whens) = constants_used e ++ constants_of_whens whens
  constants_of_statement (Block place body) = constants_of_body body
  constants_of_statement (Count place variable start end step body) =
      constants_used start ++ (constants_used end ++ (constants_of_step step ++ constants_of_body body))
  constants_of_statement (While place condition body) = constants_used condition ++ constants_of_body body
  constants_of_statement (Until place condition body) = constants_used condition ++ constants_of_body body
  constants_of_statement _ = []

  -- those of statements
  pub constants_of_body : TypedStatements → List UsedConstant
  constants_of_body Finish = []
  constants_of_body (Next first rest) = constants_of_statement first ++ constants_of_body rest

  -- those of the parts of a `select`
  pub constants_of_whens : TypedWhens → List UsedConstant
  constants_of_whens NoOtherwise = []
  constants_of_whens (Otherwise s) = constants_of_statement s
  constants_of_whens (When tests s rest) = constants_of_all tests ++ (constants_of_statement s ++ constants_of_whens rest)

-- each of these constants has its number
abbrev pub HaveConstants : ProgramParts → CodeNumbers → List UsedConstant → Type 0
HaveConstants code numbers [] = Unit {0}
HaveConstants code numbers (c ∷ constants) = HasConstant code numbers c.value c.ty × HaveConstants code numbers constants
