-- What statements mention, change, call and write, and likewise with the methods that they may call.
use Rattle.std.specs.List.{list_any, filter, flat_map}
use Rattle.std.specs.Prelude.{ℕ, zero, suc, ◌+◌, Bool, false, bytes_eq, ◌&&◌, ◌==◌, if◌then◌else◌, List, [], ◌∷◌, ◌++◌, length, map, fold, slice_get, Option, Some, None}
use Rattle.ds2_base.specs.declared.place.Place.{Place}
use Rattle.ds2_value.specs.declared.fault.TheConstants.{CALL_DEPTH}
use Rattle.ds2_value.specs.declared.hash_function.HashFunction.{HashFunction}
use Rattle.ds2_value.specs.declared.hash_function.HashFunction.TheVariants as hash
use Rattle.ds2_meaning.specs.declared.hashes.DeclaredHash.{DeclaredHash}
use Rattle.ds2_meaning.specs.declared.hashes.DeclaredIterator.{DeclaredIterator}
use Rattle.ds2_meaning.specs.declared.hashes.HashVariable.{HashVariable}
use Rattle.ds2_meaning.specs.declared.location.Global.{Global}
use Rattle.ds2_meaning.specs.declared.location.Global.TheVariants.{Named, Parameter}
use Rattle.ds2_meaning.specs.declared.location.Reference.{Reference}
use Rattle.ds2_meaning.specs.declared.location.Reference.TheVariants.{At, Local}
use Rattle.ds2_meaning.specs.Evaluation.{callee_home}
use Rattle.ds2_meaning.specs.HashObjects.{DeclaredObjects, hash_named, iterator_named, object_at}
use Rattle.ds2_meaning.specs.Location.{Home, is_same_home, Location, is_same_location}
use Rattle.ds2_meaning.specs.Method.{MethodTree}
use Rattle.ds2_meaning.specs.ProgramTree.{InstanceTree, UnitTree, output_sources, methods_of, objects_of}
use Rattle.ds2_meaning.specs.TypedExpression.{TypedExpression, Constant, Variable, Widen, Convert, Prefixed, Chain, Compared, Applied, Called, HashCalled, IteratorCalled, Links, NoLink, Link, TypedExpressions, NoExpression, Then, TypedArguments, NoArgument, ByValue, InOut}
use Rattle.ds2_meaning.specs.TypedStatement.{TypedStatement, Empty, Assign, Invoke, Evaluate, SetParameters, ParameterValue, Construct, Leave, Continue, Return, ReturnValue, Output, Put, If, IfElse, Select, SelectValue, Block, Count, While, Until, TypedStatements, Finish, Next, TypedWhens, NoOtherwise, Otherwise, When, Item, Text, Shown, Labelled}

-- ---- methods and code

-- a method, by whose it is and by its number there
pub record MethodAt : Type 0 where
  pub home : Home
  pub number : ℕ

-- whether two are one method
abbrev pub is_same_method : MethodAt → MethodAt → Bool
is_same_method a b = is_same_home a.home b.home && a.number == b.number

-- whose code it is, and what it names by a number or a name of its own: hash objects with iterators, and for each output the variables
-- of its columns
pub record CodeScope : Type 0 where
  pub home : Home
  pub objects : DeclaredObjects
  pub outputs : List (List (List ℕ))

-- the code of a program's system methods
abbrev pub system_scope : UnitTree → CodeScope
system_scope p = record { home = None; objects = p.objects; outputs = output_sources p }

-- the code of the methods of a home, which write to no output
abbrev pub method_scope : UnitTree → Home → CodeScope
method_scope p home = record { home = home; objects = objects_of p home; outputs = [] }

-- ---- locations

-- the location of a global of a home
abbrev pub global_at : Home → Global → Location
global_at home global = record { home = home; global = global }

-- the location that a variable stands for; a parameter or a local of a method has none
abbrev pub variable_at : Home → Reference → List Location
variable_at home (At global) = global_at home global ∷ []
variable_at home (Local name) = []

-- the locations of key or data variables of a hash object
abbrev pub variables_at : Home → List HashVariable → List Location
variables_at home variables = map (λ (v : HashVariable). global_at home v.global) variables

-- the iterators of the hash object of this name
abbrev pub iterators_over : Home → List DeclaredIterator → List ℕ → List Location
iterators_over home iterators name = map (λ (i : DeclaredIterator). object_at home i.name) (filter (λ (i : DeclaredIterator). bytes_eq i.hash name) iterators)

-- the key and the data variables of a hash object
abbrev pub hash_variables_at : Home → DeclaredHash → List Location
hash_variables_at home h = variables_at home h.key_variables ++ variables_at home h.data_variables

-- the variables of an output's columns, where there is such an output
abbrev pub columns_at : Home → Option (List (List ℕ)) → List Location
columns_at home None = []
columns_at home (Some names) = map (λ name. global_at home (Named name)) names

-- the variables whose values an `output` to outputs of these numbers writes, in order
abbrev pub columns_written : CodeScope → List ℕ → List Location
columns_written c numbers = flat_map (λ n. columns_at c.home (slice_get c.outputs n)) numbers

-- ---- deeds

-- what a statement does beside going one way or another: it mentions a variable, or a hash object or an iterator, changes a location,
-- calls a method, or writes a row or a line at its place
pub data Deed : Type 0 where
  Mention : Location → Deed
  MentionObject : Location → Deed
  Change : Location → Deed
  CallOf : MethodAt → Deed
  WriteAt : Place → Deed

-- a variable is mentioned and changed
abbrev pub set_deeds : Home → Reference → List Deed
set_deeds home variable = map Mention (variable_at home variable) ++ map Change (variable_at home variable)

-- what a call of a hash object changes: `find` the data variables, `add`, `replace`, `remove` and `clear` the hash object and its
-- iterators
abbrev pub changed_by_hash : Home → List DeclaredIterator → HashFunction → DeclaredHash → List Location
changed_by_hash home iterators hash.Find h = variables_at home h.data_variables
changed_by_hash home iterators hash.Check h = []
changed_by_hash home iterators hash.NumItems h = []
changed_by_hash home iterators hash.Add h = object_at home h.name ∷ iterators_over home iterators h.name
changed_by_hash home iterators hash.Replace h = object_at home h.name ∷ iterators_over home iterators h.name
changed_by_hash home iterators hash.Remove h = object_at home h.name ∷ iterators_over home iterators h.name
changed_by_hash home iterators hash.Clear h = object_at home h.name ∷ iterators_over home iterators h.name

-- a call of a hash object mentions it and its key and data variables
abbrev pub hash_deeds : CodeScope → HashFunction → Option DeclaredHash → List Deed
hash_deeds c f None = []
hash_deeds c f (Some h) =
    MentionObject (object_at c.home h.name) ∷ (map Mention (hash_variables_at c.home h) ++ map Change (changed_by_hash c.home c.objects.iterators f h))

-- a call of an iterator mentions the key and data variables of its hash object, and changes the data variables
abbrev pub walked_hash_deeds : Home → Option DeclaredHash → List Deed
walked_hash_deeds home None = []
walked_hash_deeds home (Some h) = map Mention (hash_variables_at home h) ++ map Change (variables_at home h.data_variables)

-- a call of an iterator mentions it, its hash object and that one's variables, and changes it and the data variables
abbrev pub iterator_deeds : CodeScope → Option DeclaredIterator → List Deed
iterator_deeds c None = []
iterator_deeds c (Some i) =
    MentionObject (object_at c.home i.name) ∷ MentionObject (object_at c.home i.hash) ∷ Change (object_at c.home i.name)
    ∷ walked_hash_deeds c.home (hash_named c.objects.hashes i.hash)

-- the deeds of arguments, and then the call of a method with them
abbrev pub deeds_then_call : CodeScope → Option (List ℕ) → ℕ → List Deed → List Deed
deeds_then_call c instance method arguments = arguments ++ CallOf (record { home = callee_home c.home instance; number = method }) ∷ []

module _ (c : CodeScope) where
  abbrev mutual
    -- the deeds of an expression
    pub expression_deeds : TypedExpression → List Deed
    expression_deeds (Constant v ty) = []
    expression_deeds (Variable variable ty) = map Mention (variable_at c.home variable)
    expression_deeds (Widen e) = expression_deeds e
    expression_deeds (Convert e ty) = expression_deeds e
    expression_deeds (Prefixed p e ty) = expression_deeds e
    expression_deeds (Chain first links) = expression_deeds first ++ link_deeds links
    expression_deeds (Compared comparison left right) = expression_deeds left ++ expression_deeds right
    expression_deeds (Applied function arguments ty) = expressions_deeds arguments
    expression_deeds (Called instance method arguments ty) = deeds_then_call c instance method (argument_deeds arguments)
    expression_deeds (HashCalled h f) = hash_deeds c f (hash_named c.objects.hashes h)
    expression_deeds (IteratorCalled i f) = iterator_deeds c (iterator_named c.objects.iterators i)

    -- those of the further operands of a chain
    pub link_deeds : Links → List Deed
    link_deeds NoLink = []
    link_deeds (Link widens operation operand ty rest) = expression_deeds operand ++ link_deeds rest

    -- those of several expressions
    pub expressions_deeds : TypedExpressions → List Deed
    expressions_deeds NoExpression = []
    expressions_deeds (Then e rest) = expression_deeds e ++ expressions_deeds rest

    -- those of arguments: a variable that is handed in and out is changed
    pub argument_deeds : TypedArguments → List Deed
    argument_deeds NoArgument = []
    argument_deeds (ByValue e rest) = expression_deeds e ++ argument_deeds rest
    argument_deeds (InOut variable rest) = set_deeds c.home variable ++ argument_deeds rest

  -- the deeds of a call: its arguments, and the method
  abbrev pub call_deeds : Option (List ℕ) → ℕ → TypedArguments → List Deed
  call_deeds instance method arguments = deeds_then_call c instance method (argument_deeds arguments)

  -- those of a call of a constructor, where there is one
  abbrev pub constructor_deeds : List ℕ → Option ℕ → TypedArguments → List Deed
  constructor_deeds instance None arguments = []
  constructor_deeds instance (Some method) arguments = call_deeds (Some instance) method arguments

  -- those of values for the parameters of a thread program
  abbrev pub parameter_deeds : List ℕ → List ParameterValue → List Deed
  parameter_deeds instance [] = []
  parameter_deeds instance (p ∷ ps) = expression_deeds p.value ++ Change (global_at (Some instance) (Parameter p.parameter)) ∷ parameter_deeds instance ps

  -- those of the items of a line
  abbrev pub item_deeds : List Item → List Deed
  item_deeds [] = []
  item_deeds (Text t ∷ items) = item_deeds items
  item_deeds (Shown e ∷ items) = expression_deeds e ++ item_deeds items
  item_deeds (Labelled name e ∷ items) = expression_deeds e ++ item_deeds items

  -- those of the step of a counted loop, where there is one
  abbrev pub step_deeds : Option TypedExpression → List Deed
  step_deeds None = []
  step_deeds (Some e) = expression_deeds e

  abbrev mutual
    -- the deeds of a statement
    pub statement_deeds : TypedStatement → List Deed
    statement_deeds (Empty place) = []
    statement_deeds (Assign place variable e) = expression_deeds e ++ set_deeds c.home variable
    statement_deeds (Invoke place instance method arguments) = call_deeds instance method arguments
    statement_deeds (Evaluate place e) = expression_deeds e
    statement_deeds (SetParameters place instance values) = parameter_deeds instance values
    statement_deeds (Construct place instance method arguments) = constructor_deeds instance method arguments
    statement_deeds (Leave place) = []
    statement_deeds (Continue place) = []
    statement_deeds (Return place) = []
    statement_deeds (ReturnValue place e) = expression_deeds e
    statement_deeds (Output place numbers) = WriteAt place ∷ map Mention (columns_written c numbers)
    statement_deeds (Put place items) = WriteAt place ∷ item_deeds items
    statement_deeds (If place condition on) = expression_deeds condition ++ statement_deeds on
    statement_deeds (IfElse place condition on off) = expression_deeds condition ++ statement_deeds on ++ statement_deeds off
    statement_deeds (Select place whens) = when_deeds whens
    statement_deeds (SelectValue place e whens) = expression_deeds e ++ when_deeds whens
    statement_deeds (Block place body) = body_deeds body
    statement_deeds (Count place variable start end step body) =
        expression_deeds start ++ expression_deeds end ++ step_deeds step ++ set_deeds c.home variable ++ body_deeds body
    statement_deeds (While place condition body) = expression_deeds condition ++ body_deeds body
    statement_deeds (Until place condition body) = expression_deeds condition ++ body_deeds body

    -- those of several statements
    pub body_deeds : TypedStatements → List Deed
    body_deeds Finish = []
    body_deeds (Next first rest) = statement_deeds first ++ body_deeds rest

    -- those of the parts of a `select`
    pub when_deeds : TypedWhens → List Deed
    when_deeds NoOtherwise = []
    when_deeds (Otherwise s) = statement_deeds s
    when_deeds (When tests s rest) = expressions_deeds tests ++ statement_deeds s ++ when_deeds rest

-- ---- what may be called

-- the deeds of a method of a home; one that is not there does nothing
abbrev pub deeds_of_method : UnitTree → Home → Option MethodTree → List Deed
deeds_of_method p home None = []
deeds_of_method p home (Some method) = body_deeds (method_scope p home) method.body

-- the deeds of the statements of a method, without those of the methods that it calls
abbrev pub method_deeds : UnitTree → MethodAt → List Deed
method_deeds p m = deeds_of_method p m.home (slice_get (methods_of p m.home) m.number)

-- the methods that deeds call
abbrev pub methods_called : List Deed → List MethodAt
methods_called [] = []
methods_called (CallOf m ∷ deeds) = m ∷ methods_called deeds
methods_called (_ ∷ deeds) = methods_called deeds

-- a method is among these
abbrev pub is_among_methods : MethodAt → List MethodAt → Bool
is_among_methods m methods = list_any (is_same_method m) methods

-- one more method, where it is not among these
abbrev pub with_method : List MethodAt → MethodAt → List MethodAt
with_method methods m = if is_among_methods m methods then methods else methods ++ m ∷ []

-- these methods and those that they call, calls so many deep
abbrev pub reached_from : UnitTree → ℕ → List MethodAt → List MethodAt
reached_from p zero methods = methods
reached_from p (suc n) methods = reached_from p n (fold with_method methods (flat_map (λ m. methods_called (method_deeds p m)) methods))

-- how many methods a program and its instances have
abbrev pub number_of_methods : UnitTree → ℕ
number_of_methods p = length p.methods + length (flat_map (λ (i : InstanceTree). i.methods) p.instances)

-- the methods that deeds may call, by way of others too: calls deeper than there are methods, and than may ever be under way, bring no
-- further one
abbrev pub may_be_called : UnitTree → List Deed → List MethodAt
may_be_called p deeds = reached_from p (number_of_methods p + CALL_DEPTH) (fold with_method [] (methods_called deeds))

-- deeds, and those of all methods that they may call
abbrev pub with_callees : UnitTree → List Deed → List Deed
with_callees p deeds = deeds ++ flat_map (method_deeds p) (may_be_called p deeds)

-- all that `run` and the methods that it may call do
abbrev pub run_deeds : UnitTree → List Deed
run_deeds p = with_callees p (body_deeds (system_scope p) p.run.statements)

-- all that `init`, the constructors and the methods that these may call do
abbrev pub init_deeds : UnitTree → List Deed
init_deeds p = with_callees p (body_deeds (system_scope p) p.init.statements)

-- a deed changes a location
abbrev pub changes_location : Location → Deed → Bool
changes_location at (Change other) = is_same_location at other
changes_location at _ = false

-- a deed mentions a location
abbrev pub mentions_location : Location → Deed → Bool
mentions_location at (Mention other) = is_same_location at other
mentions_location at (MentionObject other) = is_same_location at other
mentions_location at _ = false

-- `run` can change a location: it, or a method that it may call, assigns to it, counts a loop by it, hands it in and out, copies the
-- data of an item into it, or calls a hash object or an iterator so that the items or the position may be others behind the call
abbrev pub run_can_change : UnitTree → Location → Bool
run_can_change p at = list_any (changes_location at) (run_deeds p)
