-- The trees that the code holds, as plain data.
use Rattle.std.specs.Prelude.{ℕ, List, [], ◌∷◌, map, Option, Some, None}
use Rattle.std.specs.Option.{option_map}
use Rattle.std.specs.Arc.{arc_value}
use Rattle.std.specs.declared.boxed.Box.{Box}
use Rattle.std.specs.declared.sync.Arc.{Arc}
use Rattle.std.specs.declared.alloc.Global as allocator
use Rattle.ds2_base.specs.declared.place.Place.{Place}
use Rattle.ds2_meaning.specs.declared.expressions.Argument.TheFolds.{fold-Argument, fold-Call, fold-Expression, fold-Link}
use Rattle.ds2_meaning.specs.declared.expressions.Argument.TheOpen as node
use Rattle.ds2_meaning.specs.declared.expressions.Argument as code_argument
use Rattle.ds2_meaning.specs.declared.expressions.Call as code_call
use Rattle.ds2_meaning.specs.declared.expressions.Expression as code_expression
use Rattle.ds2_meaning.specs.declared.expressions.Link as code_link
use Rattle.ds2_meaning.specs.declared.statements.Statement.TheFolds.{fold-Statement}
use Rattle.ds2_meaning.specs.declared.statements.Statement.TheOpen as statement_node
use Rattle.ds2_meaning.specs.declared.statements.Statement as code_statement
use Rattle.ds2_meaning.specs.declared.statements.ParameterSetting.{ParameterSetting}
use Rattle.ds2_meaning.specs.declared.statements.PutItem.{PutItem}
use Rattle.ds2_meaning.specs.declared.statements.PutItem.TheVariants as put_item
use Rattle.ds2_meaning.specs.declared.methods.Method as code_method
use Rattle.ds2_meaning.specs.declared.methods.SystemMethod.{SystemMethod}
use Rattle.ds2_meaning.specs.declared.globals.Variable.{Variable}
use Rattle.ds2_meaning.specs.declared.hashes.DeclaredHash.{DeclaredHash}
use Rattle.ds2_meaning.specs.declared.hashes.DeclaredIterator.{DeclaredIterator}
use Rattle.ds2_meaning.specs.declared.readings.Reading.{Reading}
use Rattle.ds2_meaning.specs.declared.readings.Reading.TheVariants.{Nothing, Once}
use Rattle.ds2_meaning.specs.declared.units.Instance.{Instance}
use Rattle.ds2_meaning.specs.declared.units.Program.{Program}
use Rattle.ds2_meaning.specs.declared.units.TypedData.{TypedData}
use Rattle.ds2_meaning.specs.declared.units.TypedThread.{TypedThread}
use Rattle.ds2_meaning.specs.declared.units.TypedThread.TheFolds.{fold-TypedThread}
use Rattle.ds2_meaning.specs.declared.units.TypedThread.TheOpen as thread_node
use Rattle.ds2_meaning.specs.HashObjects.{DeclaredObjects}
use Rattle.ds2_meaning.specs.TypedExpression as tree
use Rattle.ds2_meaning.specs.TypedStatement as statement
use Rattle.ds2_meaning.specs.Method.{MethodTree}
use Rattle.ds2_meaning.specs.ProgramTree.{BodyTree, InstanceTree, UnitTree, ProgramTree, OverTables, OverStage}

-- parts one behind the other, each given as what it puts before the rest
abbrev pub in_a_row : {A : Type 0} → List (A → A) → A → A
in_a_row [] end = end
in_a_row (part ∷ parts) end = part (in_a_row parts end)

-- a call: the instance, the method's number and the arguments
pub record CallTree : Type 0 where
  pub instance : Option (List ℕ)
  pub method : ℕ
  pub arguments : tree.TypedArguments

-- what puts something before the rest
abbrev pub Part : Type 0 → Type 0
Part A = A → A

-- an argument before the others
abbrev pub argument_part : node.Argument-F (Part tree.TypedArguments) tree.TypedExpression CallTree (Part tree.Links) → Part tree.TypedArguments
argument_part (node.Value e) = λ rest. tree.ByValue e rest
argument_part (node.InOut variable) = λ rest. tree.InOut variable rest

-- expressions in order
abbrev pub all_expressions : List tree.TypedExpression → tree.TypedExpressions
all_expressions [] = tree.NoExpression
all_expressions (e ∷ es) = tree.Then e (all_expressions es)

-- an expression, from what its parts are
abbrev pub expression_part : node.Expression-F (Part tree.TypedArguments) tree.TypedExpression CallTree (Part tree.Links) → tree.TypedExpression
expression_part (node.Constant v ty) = tree.Constant v ty
expression_part (node.Variable variable ty) = tree.Variable variable ty
expression_part (node.Widen e) = tree.Widen e.value
expression_part (node.Convert e ty) = tree.Convert e.value ty
expression_part (node.Prefixed prefix e ty) = tree.Prefixed prefix e.value ty
expression_part (node.Chain first links) = tree.Chain first.value (in_a_row links tree.NoLink)
expression_part (node.Compared comparison left right) = tree.Compared comparison left.value right.value
expression_part (node.Applied function arguments ty) = tree.Applied function (all_expressions arguments) ty
expression_part (node.Called call ty) = tree.Called call.instance call.method call.arguments ty
expression_part (node.HashCalled hash f) = tree.HashCalled hash f
expression_part (node.IteratorCalled iterator f) = tree.IteratorCalled iterator f

-- a call, from what its arguments are
abbrev pub call_part : node.Call-F (Part tree.TypedArguments) tree.TypedExpression CallTree (Part tree.Links) → CallTree
call_part c = record { instance = c.instance; method = c.method; arguments = in_a_row c.arguments tree.NoArgument }

-- a further operand of a chain before the others
abbrev pub link_part : node.Link-F (Part tree.TypedArguments) tree.TypedExpression CallTree (Part tree.Links) → Part tree.Links
link_part l = λ rest. tree.Link l.widens l.operation l.operand l.ty rest

-- an expression as its meaning sees it
abbrev pub typed_expression : code_expression.Expression → tree.TypedExpression
typed_expression = fold-Expression (Part tree.TypedArguments) tree.TypedExpression CallTree (Part tree.Links) argument_part expression_part call_part link_part

-- a call as its meaning sees it
abbrev pub call_tree : code_call.Call → CallTree
call_tree = fold-Call (Part tree.TypedArguments) tree.TypedExpression CallTree (Part tree.Links) argument_part expression_part call_part link_part

-- a further operand as its meaning sees it
abbrev pub link_tree : code_link.Link → Part tree.Links
link_tree = fold-Link (Part tree.TypedArguments) tree.TypedExpression CallTree (Part tree.Links) argument_part expression_part call_part link_part

-- an argument as its meaning sees it
abbrev pub argument_tree : code_argument.Argument → Part tree.TypedArguments
argument_tree = fold-Argument (Part tree.TypedArguments) tree.TypedExpression CallTree (Part tree.Links) argument_part expression_part call_part link_part

-- an item of `put`
abbrev pub item_tree : PutItem → statement.Item
item_tree (put_item.Constant t) = statement.Text t
item_tree (put_item.Value e) = statement.Shown (typed_expression e)
item_tree (put_item.Named name e) = statement.Labelled name (typed_expression e)

-- a parameter of a thread program and the value that it gets
abbrev pub parameter_tree : ParameterSetting → statement.ParameterValue
parameter_tree p = record { parameter = p.parameter; value = typed_expression p.value }

-- an `if` with what stands in its else part
abbrev pub if_tree : Place → tree.TypedExpression → statement.TypedStatement → Option statement.TypedStatement → statement.TypedStatement
if_tree place condition on None = statement.If place condition on
if_tree place condition on (Some off) = statement.IfElse place condition on off

-- the else part that `else if` parts make of the last one
abbrev pub Chained : Type 0
Chained = Option statement.TypedStatement → Option statement.TypedStatement

-- the last part of a `select`
abbrev pub otherwise_part : Option statement.TypedStatement → statement.TypedWhens
otherwise_part None = statement.NoOtherwise
otherwise_part (Some s) = statement.Otherwise s

-- statements in order
abbrev pub all_statements : List statement.TypedStatement → statement.TypedStatements
all_statements [] = statement.Finish
all_statements (s ∷ ss) = statement.Next s (all_statements ss)

-- what a box holds, where there is one
abbrev pub unboxed : {A : Type 0} → Option (Box A allocator.Global) → Option A
unboxed {A} = option_map (λ (boxed : Box A allocator.Global). boxed.value)

-- what is shared where there is something
abbrev pub unshared : {A : Type 0} → Option (Arc A allocator.Global) → Option A
unshared {A} = option_map (λ (shared : Arc A allocator.Global). arc_value shared)

-- a statement, from what its parts are
abbrev pub statement_part : statement_node.Statement-F statement.TypedStatement Chained (Part statement.TypedWhens) → statement.TypedStatement
statement_part (statement_node.Empty place) = statement.Empty place
statement_part (statement_node.Assign place variable e) = statement.Assign place variable (typed_expression e)
statement_part (statement_node.Invoke place call) = let c = call_tree call in statement.Invoke place c.instance c.method c.arguments
statement_part (statement_node.Evaluate place e) = statement.Evaluate place (typed_expression e)
statement_part (statement_node.SetParameters place instance values) = statement.SetParameters place instance (map parameter_tree values)
statement_part (statement_node.Leave place) = statement.Leave place
statement_part (statement_node.Continue place) = statement.Continue place
statement_part (statement_node.Return place) = statement.Return place
statement_part (statement_node.ReturnValue place e) = statement.ReturnValue place (typed_expression e)
statement_part (statement_node.Output place outputs) = statement.Output place outputs
statement_part (statement_node.Put place items) = statement.Put place (map item_tree items)
statement_part (statement_node.If place condition on others otherwise) = if_tree place (typed_expression condition) on.value (in_a_row others (unboxed otherwise))
statement_part (statement_node.Select place whens otherwise) = statement.Select place (in_a_row whens (otherwise_part (unboxed otherwise)))
statement_part (statement_node.SelectValue place e whens otherwise) = statement.SelectValue place (typed_expression e) (in_a_row whens (otherwise_part (unboxed otherwise)))
statement_part (statement_node.Block place body) = statement.Block place (all_statements body)
statement_part (statement_node.Count place variable start end step body) = statement.Count place variable (typed_expression start) (typed_expression end) (option_map typed_expression step) (all_statements body)
statement_part (statement_node.While place condition body) = statement.While place (typed_expression condition) (all_statements body)
statement_part (statement_node.Until place condition body) = statement.Until place (typed_expression condition) (all_statements body)

-- an `else if` before what stands in its else part
abbrev pub arm_part : statement_node.Arm-F statement.TypedStatement Chained (Part statement.TypedWhens) → Chained
arm_part a = λ rest. Some (if_tree a.place (typed_expression a.condition) a.then rest)

-- a `when` before the other parts of its `select`
abbrev pub when_part : statement_node.When-F statement.TypedStatement Chained (Part statement.TypedWhens) → Part statement.TypedWhens
when_part w = λ rest. statement.When (all_expressions (map typed_expression w.tests)) w.then rest

-- a statement as its meaning sees it
abbrev pub typed_statement : code_statement.Statement → statement.TypedStatement
typed_statement = fold-Statement statement.TypedStatement Chained (Part statement.TypedWhens) statement_part arm_part when_part

-- statements as their meaning sees them
abbrev pub typed_statements : List code_statement.Statement → statement.TypedStatements
typed_statements body = all_statements (map typed_statement body)

-- a method as its meaning sees it
abbrev pub typed_method : code_method.Method → MethodTree
typed_method m = record { name = m.name; parameters = m.parameters; locals = m.locals; returns = m.returns; body = typed_statements m.body }

-- a system method as its meaning sees it; one that is not there has no statements
abbrev pub system_tree : Option SystemMethod → BodyTree
system_tree None = record { locals = []; statements = statement.Finish }
system_tree (Some m) = record { locals = m.locals; statements = typed_statements m.body }

-- the hash objects and iterators of a unit
abbrev pub objects_tree : List DeclaredHash → List DeclaredIterator → DeclaredObjects
objects_tree hashes iterators = record { hashes = hashes; iterators = iterators }

-- an instance as its meaning sees it
abbrev pub instance_tree : Instance → InstanceTree
instance_tree i = record { name = i.name; package' = i.package.name; variables = i.package.variables; objects = objects_tree i.package.hashes i.package.iterators; methods = map typed_method i.package.methods }

-- the constructors of instances in order, and then other statements
abbrev pub constructors_first : List Instance → statement.TypedStatements → statement.TypedStatements
constructors_first [] rest = rest
constructors_first (i ∷ is) rest =
    statement.Next (statement.Construct i.place i.name i.constructor (in_a_row (map argument_tree i.arguments) tree.NoArgument)) (constructors_first is rest)

-- `init` with the constructors of instances in front
abbrev pub init_tree : List Instance → BodyTree → BodyTree
init_tree instances init = record { locals = init.locals; statements = constructors_first instances init.statements }

-- the reading statement of a program: without `run` there is no load, and with it there is one where nothing is read
abbrev pub reading_with_run : Option SystemMethod → Reading → Reading
reading_with_run None reading = Nothing
reading_with_run (Some run) Nothing = Once
reading_with_run (Some run) reading = reading

-- a data or thread program as its meaning sees it
abbrev pub unit_tree : Option (List ℕ) → List Variable → Program → UnitTree
unit_tree thread parameters p = record {
  thread = thread;
  parameters = parameters;
  declared = p.declared;
  columns = p.columns;
  retained = p.retained;
  instances = map instance_tree p.instances;
  objects = objects_tree p.hashes p.iterators;
  threads = p.threads;
  reading = reading_with_run p.run p.reading;
  outputs = p.outputs;
  methods = map typed_method p.methods;
  init = init_tree p.instances (system_tree p.init);
  run = system_tree p.run;
  term = system_tree p.term;
}

-- a program over the thread program that it holds, where it holds one; in a typed program it holds one exactly where it reads
-- from one
abbrev pub over_stage : UnitTree → Option ProgramTree → ProgramTree
over_stage p None = OverTables p
over_stage p (Some stage) = OverStage p stage

-- a thread program, from what the one that it reads from is
abbrev pub thread_part : thread_node.TypedThread-F ProgramTree → ProgramTree
thread_part t = over_stage (unit_tree (Some t.name) t.parameters t.program) (unshared t.stage)

-- a thread program as its meaning sees it
abbrev pub typed_thread_program : TypedThread → ProgramTree
typed_thread_program = fold-TypedThread ProgramTree thread_part

-- a data program as its meaning sees it
abbrev pub typed_data_program : TypedData → ProgramTree
typed_data_program d = over_stage (unit_tree None [] d.program) (option_map typed_thread_program d.stage)
