-- How the statements of a method use names.
use Rattle.std.specs.Prelude.{ℕ, Bool, true, bytes_eq, List, [], ◌∷◌, ◌++◌, map, is_some, Option, Some, None}
use Rattle.std.specs.List.{find}
use Rattle.ds2_base.specs.declared.place.Place.{Place}
use Rattle.ds2_token.specs.declared.token.Token.{Token}
use Rattle.ds2_tree.specs.Expressions.{Expression, Constant, Null, Variable, Member, Call, Parenthesis, Sign, Chain, Comparison, Not, Operands, NoOperand, Operand, Arguments, NoArgument, Argument}
use Rattle.ds2_tree.specs.Globals.{Method}
use Rattle.ds2_tree.specs.Statements as s
use Rattle.ds2_tree.specs.declared.expressions.Callee.{Callee}
use Rattle.ds2_tree.specs.declared.expressions.Callee.TheVariants as callee
use Rattle.ds2_tree.specs.declared.globals.Parameter as source_parameter
use Rattle.ds2_tree.specs.declared.statements.PutItem.{PutItem}
use Rattle.ds2_tree.specs.declared.statements.PutItem.TheVariants as item
use Rattle.ds2_names.specs.SourceUnit.{spelled_name}

-- a use of a name
pub data NameUse : Type 0 where
  -- the value of a name, and of `x.y` without an argument list
  Values : Token → NameUse
  Members : (object member : Token) → NameUse
  -- a variable that is handed to an in_out parameter
  HandsOver : Token → NameUse
  -- a call with its arguments
  CallsOn : Callee → Arguments → NameUse
  -- the target of an assignment, and the variable of a counted `do`
  Sets : Token → NameUse
  -- a table of `output`
  WritesTo : Token → NameUse

-- the place of the first token of what is called
abbrev pub callee_place : Callee → Place
callee_place (callee.Function name) = name.place
callee_place (callee.Null keyword) = keyword.place
callee_place (callee.Method object dot method) = object.place

-- the place of the first token of an expression
abbrev pub first_place : Expression → Place
first_place (Constant t) = t.place
first_place (Null keyword) = keyword.place
first_place (Variable name) = name.place
first_place (Member object dot member) = object.place
first_place (Call f opening arguments closing) = callee_place f
first_place (Parenthesis opening inner closing) = opening
first_place (Sign operator operand) = operator.place
first_place (Chain kind first rest) = first_place first
first_place (Comparison left operator right) = first_place left
first_place (Not operator operand) = operator.place

-- the first method of this name
abbrev pub method_named : List Method → List ℕ → Option Method
method_named methods name = find (λ (m : Method). bytes_eq (spelled_name m.name) name) methods

-- for each parameter of a method whether it is in_out
abbrev pub in_out_of : Option Method → List Bool
in_out_of None = []
in_out_of (Some m) = map (λ (p : source_parameter.Parameter). is_some p.in_out) m.parameters.list

-- the uses of names, where `in_out_parameters` tells for each parameter of what is called whether it is in_out
module _ (in_out_parameters : Callee → List Bool) where
  abbrev mutual
    -- the uses of names in an expression, in order
    pub uses : Expression → List NameUse
    uses (Constant t) = []
    uses (Null keyword) = []
    uses (Variable name) = Values name ∷ []
    uses (Member object dot member) = Members object member ∷ []
    uses (Call f opening arguments closing) = CallsOn f arguments ∷ argument_uses (in_out_parameters f) arguments
    uses (Parenthesis opening inner closing) = uses inner
    uses (Sign operator operand) = uses operand
    uses (Chain kind first rest) = uses first ++ operand_uses rest
    uses (Comparison left operator right) = uses left ++ uses right
    uses (Not operator operand) = uses operand

    -- those in the further operands of a chain
    pub operand_uses : Operands → List NameUse
    operand_uses NoOperand = []
    operand_uses (Operand operator value rest) = uses value ++ operand_uses rest

    -- those in arguments, of which some are for in_out parameters
    pub argument_uses : List Bool → Arguments → List NameUse
    argument_uses in_out NoArgument = []
    argument_uses (true ∷ in_out) (Argument comma (Variable name) rest) = HandsOver name ∷ argument_uses in_out rest
    argument_uses (flag ∷ in_out) (Argument comma value rest) = uses value ++ argument_uses in_out rest
    argument_uses [] (Argument comma value rest) = uses value ++ argument_uses [] rest

  -- those in an item of `put`
  abbrev pub item_uses : List PutItem → List NameUse
  item_uses [] = []
  item_uses (item.Text t ∷ items) = item_uses items
  item_uses (item.Variable name sign ∷ items) = Values name ∷ item_uses items
  item_uses (item.Member object dot member ∷ items) = Members object member ∷ item_uses items

  -- those in an expression that may be left out
  abbrev pub uses_if_any : Option Expression → List NameUse
  uses_if_any None = []
  uses_if_any (Some e) = uses e

  -- those in the step of a counted `do`
  abbrev pub step_uses : Option s.Step → List NameUse
  step_uses None = []
  step_uses (Some step) = uses step.value

  -- those between `do` and its `;`
  abbrev pub control_uses : s.DoControl → List NameUse
  control_uses s.Block = []
  control_uses (s.Counted variable equals start to stop step) = Sets variable ∷ (uses start ++ uses stop ++ step_uses step)
  control_uses (s.Tested keyword opening condition closing) = uses condition

  -- those in the value of a `select`
  abbrev pub selector_uses : Option s.Selector → List NameUse
  selector_uses None = []
  selector_uses (Some selector) = uses selector.value

  abbrev mutual
    -- the uses of names in a statement, in order
    pub statement_uses : s.Statement → List NameUse
    statement_uses (s.Empty end) = []
    statement_uses (s.Assignment target equals value end) = Sets target ∷ uses value
    statement_uses (s.Call f opening arguments closing end) = CallsOn f arguments ∷ argument_uses (in_out_parameters f) arguments
    statement_uses (s.Leave keyword end) = []
    statement_uses (s.Continue keyword end) = []
    statement_uses (s.Return keyword value end) = uses_if_any value
    statement_uses (s.Output keyword tables end) = map WritesTo tables
    statement_uses (s.Put keyword items end) = item_uses items
    statement_uses (s.If keyword condition then_keyword then_part) = uses condition ++ statement_uses then_part
    statement_uses (s.IfElse keyword condition then_keyword then_part else_keyword else_part) =
        uses condition ++ statement_uses then_part ++ statement_uses else_part
    statement_uses (s.Select keyword selector semicolon whens otherwise end_keyword end) =
        selector_uses selector ++ when_uses whens ++ otherwise_uses otherwise
    statement_uses (s.Do keyword control semicolon body end_keyword end) = control_uses control ++ statements_uses body

    -- those in statements
    pub statements_uses : s.Statements → List NameUse
    statements_uses s.NoStatement = []
    statements_uses (s.Then first rest) = statement_uses first ++ statements_uses rest

    -- those in the parts of a `select`
    pub when_uses : s.Whens → List NameUse
    when_uses s.NoWhen = []
    when_uses (s.When keyword opening values closing statement rest) = argument_uses [] values ++ statement_uses statement ++ when_uses rest

    -- those in its last part
    pub otherwise_uses : s.Otherwise → List NameUse
    otherwise_uses s.NoOtherwise = []
    otherwise_uses (s.Otherwise' keyword statement) = statement_uses statement
