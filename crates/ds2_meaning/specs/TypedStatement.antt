-- Typed statements, as plain data. A chained `else if` is an `if` in the else part.
use Rattle.std.specs.Prelude.{ℕ, Bool, true, false, ◌||◌, List, Option}
use Rattle.ds2_base.specs.declared.place.Place.{Place}
use Rattle.ds2_meaning.specs.declared.location.Reference.{Reference}
use Rattle.ds2_meaning.specs.TypedExpression.{TypedExpression, TypedExpressions, TypedArguments}

-- an item of `put`: a text constant, the value of a variable, or a name with the value of its variable
pub data Item : Type 0 where
  Text : List ℕ → Item
  Shown : TypedExpression → Item
  Labelled : (name : List ℕ) → TypedExpression → Item

-- a parameter of a thread program, and the value that it gets
pub record ParameterValue : Type 0 where
  pub parameter : List ℕ
  pub value : TypedExpression

mutual
  -- a statement at its place
  pub data TypedStatement : Type 0 where
    -- ;
    Empty : Place → TypedStatement
    -- variable = value;
    Assign : Place → Reference → (value : TypedExpression) → TypedStatement
    -- a call whose result is dropped
    Invoke : Place → (instance : Option (List ℕ)) → (method : ℕ) → (arguments : TypedArguments) → TypedStatement
    -- a call of a function, a hash object or an iterator, whose value is dropped
    Evaluate : Place → (value : TypedExpression) → TypedStatement
    -- the parameters of an instance of a thread program get values
    SetParameters : Place → (instance : List ℕ) → (values : List ParameterValue) → TypedStatement
    -- the declaration of an instance: a call of its constructor, where its package has one
    Construct : Place → (instance : List ℕ) → (constructor : Option ℕ) → (arguments : TypedArguments) → TypedStatement
    -- leave; continue; return; and return value;
    Leave : Place → TypedStatement
    Continue : Place → TypedStatement
    Return : Place → TypedStatement
    ReturnValue : Place → (value : TypedExpression) → TypedStatement
    -- output, to outputs by their numbers
    Output : Place → (outputs : List ℕ) → TypedStatement
    Put : Place → (items : List Item) → TypedStatement
    -- if, without and with an else part
    If : Place → (condition : TypedExpression) → (on : TypedStatement) → TypedStatement
    IfElse : Place → (condition : TypedExpression) → (on off : TypedStatement) → TypedStatement
    -- select; and select (value);
    Select : Place → (whens : TypedWhens) → TypedStatement
    SelectValue : Place → (value : TypedExpression) → (whens : TypedWhens) → TypedStatement
    -- do; do variable = start to end by step; do while; do until
    Block : Place → (body : TypedStatements) → TypedStatement
    Count : Place → Reference → (start end : TypedExpression) → (step : Option TypedExpression) → (body : TypedStatements) → TypedStatement
    While : Place → (condition : TypedExpression) → (body : TypedStatements) → TypedStatement
    Until : Place → (condition : TypedExpression) → (body : TypedStatements) → TypedStatement

  -- statements in order
  pub data TypedStatements : Type 0 where
    Finish : TypedStatements
    Next : (first : TypedStatement) → (rest : TypedStatements) → TypedStatements

  -- the parts of a `select`, each with its tests, and the `otherwise` part or none
  pub data TypedWhens : Type 0 where
    NoOtherwise : TypedWhens
    Otherwise : TypedStatement → TypedWhens
    When : (tests : TypedExpressions) → (body : TypedStatement) → (rest : TypedWhens) → TypedWhens

abbrev mutual
  -- whether an `output` statement stands in a statement
  pub has_output : TypedStatement → Bool
  has_output (Output place outputs) = true
  has_output (If place condition on) = has_output on
  has_output (IfElse place condition on off) = has_output on || has_output off
  has_output (Select place whens) = whens_have_output whens
  has_output (SelectValue place value whens) = whens_have_output whens
  has_output (Block place body) = have_output body
  has_output (Count place variable start end step body) = have_output body
  has_output (While place condition body) = have_output body
  has_output (Until place condition body) = have_output body
  has_output _ = false

  -- whether one stands in one of several statements
  pub have_output : TypedStatements → Bool
  have_output Finish = false
  have_output (Next s rest) = has_output s || have_output rest

  -- whether one stands in a part of a `select`
  pub whens_have_output : TypedWhens → Bool
  whens_have_output NoOtherwise = false
  whens_have_output (Otherwise s) = has_output s
  whens_have_output (When tests s rest) = has_output s || whens_have_output rest
