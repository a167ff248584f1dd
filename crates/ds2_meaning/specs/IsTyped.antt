-- Which programs are typed: by cases over the tree, every name is known, every type fits, and nothing sets a flag: no assignment, no
-- counted loop, no in_out argument and no data variable of a hash object.
use Rattle.std.specs.List.{list_all, AllByRecursion, position_from}
use Rattle.std.specs.Prelude.{◌≡◌, ◌≤◌, ◌<◌, ◌+◌, IsTrue, ℕ, min, max, pos, Bool, true, false, bytes_eq, if◌then◌else◌, not, ◌&&◌, List, [], ◌∷◌, ◌++◌, length, map, slice_get, is_some, Option, Some, None}
use Rattle.ds2_value.specs.HashList.{HashItem, HashItems}
use Rattle.ds2_value.specs.Row.{Row, Columns}
use Rattle.ds2_value.specs.Schema.{has_column, is_schema}
use Rattle.ds2_value.specs.Types.{in_bounds, fits, takes}
use Rattle.ds2_value.specs.ValueFunctions.{function_type}
use Rattle.ds2_value.specs.declared.ty.Ty.{Ty}
use Rattle.ds2_value.specs.declared.ty.Ty.TheVariants.{BigInt, Decimal as DecimalOf, Char, Varchar}
use Rattle.ds2_value.specs.declared.value.Value.TheVariants.{Int}
use Rattle.ds2_meaning.specs.declared.expressions.Function.{Function}
use Rattle.ds2_meaning.specs.declared.expressions.Function.TheVariants as function
use Rattle.ds2_meaning.specs.declared.expressions.Operation.{Operation}
use Rattle.ds2_meaning.specs.declared.expressions.Operation.TheVariants as operation
use Rattle.ds2_meaning.specs.declared.expressions.Prefix.{Prefix}
use Rattle.ds2_meaning.specs.declared.expressions.Prefix.TheVariants as prefix
use Rattle.ds2_meaning.specs.declared.globals.OutputColumn.{OutputColumn}
use Rattle.ds2_meaning.specs.declared.globals.OutputTable.{OutputTable}
use Rattle.ds2_meaning.specs.declared.globals.Variable.{Variable}
use Rattle.ds2_meaning.specs.declared.hashes.DeclaredHash.{DeclaredHash}
use Rattle.ds2_meaning.specs.declared.hashes.DeclaredIterator.{DeclaredIterator}
use Rattle.ds2_meaning.specs.declared.hashes.HashVariable.{HashVariable}
use Rattle.ds2_meaning.specs.declared.hashes.LoadedTable.{LoadedTable}
use Rattle.ds2_meaning.specs.declared.hashes.ThreadInstance.{ThreadInstance}
use Rattle.ds2_meaning.specs.declared.location.Global.{Global}
use Rattle.ds2_meaning.specs.declared.location.Global.TheVariants.{Named, First, Last, Present, Parameter}
use Rattle.ds2_meaning.specs.declared.location.Reference.{Reference}
use Rattle.ds2_meaning.specs.declared.location.Reference.TheVariants.{At, Local}
use Rattle.ds2_meaning.specs.declared.methods.Parameter as parameters
use Rattle.ds2_meaning.specs.declared.readings.ByVariable.{ByVariable}
use Rattle.ds2_meaning.specs.declared.readings.Input.{Input}
use Rattle.ds2_meaning.specs.declared.readings.Reading.{Reading}
use Rattle.ds2_meaning.specs.declared.readings.Reading.TheVariants.{Merge, From}
use Rattle.ds2_meaning.specs.HashObjects.{DeclaredObjects, hash_named, iterator_named, object_at}
use Rattle.ds2_meaning.specs.Location.{Home, Location, Storage, held, items_held}
use Rattle.ds2_meaning.specs.Method.{MethodTree}
use Rattle.ds2_meaning.specs.ProgramMeaning.{global_name, output_columns}
use Rattle.ds2_meaning.specs.ProgramTree.{BodyTree, InstanceTree, UnitTree, ProgramTree, OverTables, OverStage, data_vector, is_listed, methods_of, objects_of, reader_of}
use Rattle.ds2_meaning.specs.Reading.{inputs_of, bys_of, stage_instance, stage_columns}
use Rattle.ds2_meaning.specs.TypedExpression as e
use Rattle.ds2_meaning.specs.TypedStatement as s

-- ---- what a method may name

-- the type of the first variable of this name
abbrev pub type_in : List Variable → List ℕ → Option Ty
type_in [] name = None
type_in (v ∷ variables) name = if bytes_eq v.name name then Some v.ty else type_in variables name

-- the parameters of a method as variables, before others
abbrev pub with_parameters_of : List parameters.Parameter → List Variable → List Variable
with_parameters_of [] variables = variables
with_parameters_of (p ∷ ps) variables = record { name = p.name; ty = p.ty } ∷ with_parameters_of ps variables

-- what the statements of a method may name: globals with their types, its parameters and locals, the methods that they may call,
-- the hash objects and iterators of its unit, the instances of thread programs whose parameters it may set, whether it is a system
-- method, how many outputs it may write to, and what it returns where it returns a value
pub record NamesInScope : Type 0 where
  pub globals : Global → Option Ty
  pub locals : List Variable
  pub methods : Option (List ℕ) → List MethodTree
  pub objects : DeclaredObjects
  pub threads : List ThreadInstance
  pub is_system : Bool
  pub outputs : ℕ
  pub returns : Option Ty

-- the type of a variable, where it is in scope
abbrev pub reference_type : NamesInScope → Reference → Option Ty
reference_type names (At global) = names.globals global
reference_type names (Local name) = type_in names.locals name

-- the parameters of the instance of a thread program of this name
abbrev pub thread_parameters : List ThreadInstance → List ℕ → Option (List Variable)
thread_parameters [] name = None
thread_parameters (i ∷ instances) name = if bytes_eq i.name name then Some i.parameters else thread_parameters instances name

-- a statement may set a variable: it is no flag
abbrev pub IsTarget : Reference → Type 0
IsTarget (At (Named name)) = Unit {0}
IsTarget (At (Parameter name)) = Unit {0}
IsTarget (At (First name)) = ⊥
IsTarget (At (Last name)) = ⊥
IsTarget (At (Present name)) = ⊥
IsTarget (Local name) = Unit {0}

-- ---- types

-- the kinds of types: two kinds of numbers, and texts
pub data TypeClass : Type 0 where
  Integers : TypeClass
  Decimals : TypeClass
  Texts : TypeClass

-- the kind of a type
abbrev pub class_of : Ty → TypeClass
class_of BigInt = Integers
class_of (DecimalOf p s) = Decimals
class_of (Char n) = Texts
class_of (Varchar n) = Texts

-- a type of numbers
abbrev pub IsNumeric : Ty → Type 0
IsNumeric BigInt = Unit {0}
IsNumeric (DecimalOf p s) = Unit {0}
IsNumeric (Char n) = ⊥
IsNumeric (Varchar n) = ⊥

-- the number of digits after the point
abbrev pub type_scale : Ty → ℕ
type_scale (DecimalOf p s) = s
type_scale _ = 0

-- the most characters of a text
abbrev pub type_width : Ty → ℕ
type_width (Char n) = n
type_width (Varchar n) = n
type_width _ = 0

-- the type of a DECIMAL result of this scale
abbrev pub decimal_result : ℕ → Ty
decimal_result scale = DecimalOf 38 scale

-- three types of an operation on BIGINT values
abbrev pub AreIntegers : Ty → Ty → Ty → Type 0
AreIntegers a b result = (a ≡ BigInt) × (b ≡ BigInt) × (result ≡ BigInt)

-- three types of an operation on DECIMAL values whose result has this scale
abbrev pub AreDecimals : ℕ → Ty → Ty → Ty → Type 0
AreDecimals scale a b result = (class_of a ≡ Decimals) × (class_of b ≡ Decimals) × (result ≡ decimal_result scale)

-- an operation of a chain fits its operands' types, and gives this type
abbrev pub IsOperation : Operation → Ty → Ty → Ty → Type 0
IsOperation operation.IntegerAdd a b result = AreIntegers a b result
IsOperation operation.IntegerSubtract a b result = AreIntegers a b result
IsOperation operation.IntegerMultiply a b result = AreIntegers a b result
IsOperation operation.DecimalAdd a b result = AreDecimals (max (type_scale a) (type_scale b)) a b result
IsOperation operation.DecimalSubtract a b result = AreDecimals (max (type_scale a) (type_scale b)) a b result
IsOperation operation.DecimalMultiply a b result = AreDecimals (type_scale a + type_scale b) a b result × (type_scale a + type_scale b ≤ 38)
IsOperation operation.DecimalDivide a b result = AreDecimals (max 6 (max (type_scale a) (type_scale b))) a b result
IsOperation operation.Concatenate a b result = (class_of a ≡ Texts) × (class_of b ≡ Texts) × (result ≡ Varchar (min 1024 (type_width a + type_width b)))
IsOperation operation.And a b result = IsNumeric a × IsNumeric b × (result ≡ BigInt)
IsOperation operation.Or a b result = IsNumeric a × IsNumeric b × (result ≡ BigInt)

-- an operator before an operand fits its type, and gives this type
abbrev pub IsPrefix : Prefix → Ty → Ty → Type 0
IsPrefix prefix.IntegerNegate a result = (a ≡ BigInt) × (result ≡ BigInt)
IsPrefix prefix.DecimalNegate a result = (class_of a ≡ Decimals) × (result ≡ a)
IsPrefix prefix.Plus a result = IsNumeric a × (result ≡ a)
IsPrefix prefix.Not a result = IsNumeric a × (result ≡ BigInt)

-- arguments that are all of this type
abbrev pub AllOfType : Ty → List Ty → Type 0
AllOfType ty arguments = AllByRecursion (λ (a : Ty). a ≡ ty) arguments

-- at least so many arguments, and at most 16
abbrev pub IsManyFrom : ℕ → List Ty → Type 0
IsManyFrom least arguments = (least ≤ length arguments) × (length arguments ≤ 16)

-- a function fits its arguments' types, and gives this type; a function of several values has them in one type
abbrev pub IsApplication : Function → List Ty → Ty → Type 0
IsApplication (function.Value f) arguments result = function_type f arguments ≡ Some result
IsApplication function.Coalesce arguments result = IsManyFrom 1 arguments × AllOfType result arguments
IsApplication function.Least arguments result = IsManyFrom 2 arguments × IsNumeric result × AllOfType result arguments
IsApplication function.Greatest arguments result = IsManyFrom 2 arguments × IsNumeric result × AllOfType result arguments
IsApplication function.Unchanged (a ∷ []) result = (a ≡ BigInt) × (result ≡ BigInt)
IsApplication _ _ result = ⊥

-- ---- expressions

-- the type of a chain, from that of its operands up to here
abbrev pub chain_type : Ty → e.Links → Ty
chain_type ty e.NoLink = ty
chain_type ty (e.Link widens o operand to rest) = chain_type to rest

-- the type of an expression, as its node tells it
abbrev pub expression_type : e.TypedExpression → Ty
expression_type (e.Constant v ty) = ty
expression_type (e.Variable variable ty) = ty
expression_type (e.Widen operand) = DecimalOf 19 0
expression_type (e.Convert operand ty) = ty
expression_type (e.Prefixed p operand ty) = ty
expression_type (e.Chain first links) = chain_type (expression_type first) links
expression_type (e.Compared c left right) = BigInt
expression_type (e.Applied f arguments ty) = ty
expression_type (e.Called instance method arguments ty) = ty
expression_type (e.HashCalled hash f) = BigInt
expression_type (e.IteratorCalled iterator f) = BigInt

-- the types of expressions in order
abbrev pub expression_types : e.TypedExpressions → List Ty
expression_types e.NoExpression = []
expression_types (e.Then first rest) = expression_type first ∷ expression_types rest

-- the type of the left operand of a link: DECIMAL(19,0) where a BIGINT is widened
abbrev pub IsLeftOperand : Bool → Ty → Ty → Type 0
IsLeftOperand true ty operand = (ty ≡ BigInt) × (operand ≡ DecimalOf 19 0)
IsLeftOperand false ty operand = operand ≡ ty

module _ (names : NamesInScope) where
  abbrev mutual
    -- an expression whose names are known and whose types fit
    pub IsTypedExpression : e.TypedExpression → Type 0
    IsTypedExpression (e.Constant v ty) = IsTrue (in_bounds ty) × IsTrue (fits v ty)
    IsTypedExpression (e.Variable variable ty) = reference_type names variable ≡ Some ty
    IsTypedExpression (e.Widen operand) = IsTypedExpression operand × (expression_type operand ≡ BigInt)
    IsTypedExpression (e.Convert operand ty) = IsTypedExpression operand × IsTrue (in_bounds ty) × (class_of (expression_type operand) ≡ class_of ty)
    IsTypedExpression (e.Prefixed p operand ty) = IsTypedExpression operand × IsPrefix p (expression_type operand) ty
    IsTypedExpression (e.Chain first links) = IsTypedExpression first × AreTypedLinks (expression_type first) links
    IsTypedExpression (e.Compared c left right) =
        IsTypedExpression left × IsTypedExpression right × (class_of (expression_type left) ≡ class_of (expression_type right))
    IsTypedExpression (e.Applied f arguments ty) = AreTypedExpressions arguments × IsApplication f (expression_types arguments) ty
    IsTypedExpression (e.Called instance number arguments ty) =
        (method : MethodTree) × (slice_get (names.methods instance) number ≡ Some method) × (method.returns ≡ Some ty) × AreTypedArguments method.parameters arguments
    IsTypedExpression (e.HashCalled hash f) = IsTrue (is_some (hash_named names.objects.hashes hash))
    IsTypedExpression (e.IteratorCalled iterator f) = IsTrue (is_some (iterator_named names.objects.iterators iterator))

    -- the further operands of a chain, behind operands of this type
    pub AreTypedLinks : Ty → e.Links → Type 0
    AreTypedLinks ty e.NoLink = Unit {0}
    AreTypedLinks ty (e.Link widens o operand to rest) =
        IsTypedExpression operand
        × ((left : Ty) × IsLeftOperand widens ty left × IsOperation o left (expression_type operand) to)
        × AreTypedLinks to rest

    -- typed expressions in order
    pub AreTypedExpressions : e.TypedExpressions → Type 0
    AreTypedExpressions e.NoExpression = Unit {0}
    AreTypedExpressions (e.Then first rest) = IsTypedExpression first × AreTypedExpressions rest

    -- an argument for each parameter: a value of its type, or for an in_out parameter a variable of its type that may be set
    pub AreTypedArguments : List parameters.Parameter → e.TypedArguments → Type 0
    AreTypedArguments [] e.NoArgument = Unit {0}
    AreTypedArguments (p ∷ ps) (e.ByValue value rest) =
        (p.is_in_out ≡ false) × IsTypedExpression value × (expression_type value ≡ p.ty) × AreTypedArguments ps rest
    AreTypedArguments (p ∷ ps) (e.InOut variable rest) =
        (p.is_in_out ≡ true) × IsTarget variable × (reference_type names variable ≡ Some p.ty) × AreTypedArguments ps rest
    AreTypedArguments _ _ = ⊥

  -- a condition: a typed expression that is a number
  abbrev pub IsTypedCondition : e.TypedExpression → Type 0
  IsTypedCondition condition = IsTypedExpression condition × IsNumeric (expression_type condition)

  -- typed conditions in order
  abbrev pub AreTypedConditions : e.TypedExpressions → Type 0
  AreTypedConditions e.NoExpression = Unit {0}
  AreTypedConditions (e.Then first rest) = IsTypedCondition first × AreTypedConditions rest

  -- typed values in order, each of this kind
  abbrev pub AreTypedValues : TypeClass → e.TypedExpressions → Type 0
  AreTypedValues kind e.NoExpression = Unit {0}
  AreTypedValues kind (e.Then first rest) = IsTypedExpression first × (class_of (expression_type first) ≡ kind) × AreTypedValues kind rest

  -- a typed expression that is a BIGINT
  abbrev pub IsTypedInteger : e.TypedExpression → Type 0
  IsTypedInteger value = IsTypedExpression value × (expression_type value ≡ BigInt)

  -- the step of a counted loop, where there is one
  abbrev pub IsTypedStep : Option e.TypedExpression → Type 0
  IsTypedStep None = Unit {0}
  IsTypedStep (Some step) = IsTypedInteger step

  -- the items of a line
  abbrev pub AreTypedItems : List s.Item → Type 0
  AreTypedItems [] = Unit {0}
  AreTypedItems (s.Text t ∷ items) = AreTypedItems items
  AreTypedItems (s.Shown value ∷ items) = IsTypedExpression value × AreTypedItems items
  AreTypedItems (s.Labelled name value ∷ items) = IsTypedExpression value × AreTypedItems items

  -- outputs that are there
  abbrev pub AreOutputs : List ℕ → Type 0
  AreOutputs [] = Unit {0}
  AreOutputs (n ∷ numbers) = (n < names.outputs) × AreOutputs numbers

  -- a call of a method that is there, with arguments for its parameters
  abbrev pub IsTypedCall : Option (List ℕ) → ℕ → e.TypedArguments → Type 0
  IsTypedCall instance number arguments =
      (method : MethodTree) × (slice_get (names.methods instance) number ≡ Some method) × AreTypedArguments method.parameters arguments

  -- the arguments of a constructor, where there is one; where there is none there are no arguments
  abbrev pub HasConstructorArguments : List ℕ → Option ℕ → e.TypedArguments → Type 0
  HasConstructorArguments instance None arguments = arguments ≡ e.NoArgument
  HasConstructorArguments instance (Some number) arguments = IsTypedCall (Some instance) number arguments

  -- values for the parameters of a thread program, each in the type of its parameter
  abbrev pub AreParameterValues : List Variable → List s.ParameterValue → Type 0
  AreParameterValues [] [] = Unit {0}
  AreParameterValues (p ∷ parameters) (v ∷ values) =
      (v.parameter ≡ p.name) × IsTypedExpression v.value × (expression_type v.value ≡ p.ty) × AreParameterValues parameters values
  AreParameterValues _ _ = ⊥

  -- values for the parameters of an instance of a thread program that may be set
  abbrev pub AreValuesFor : Option (List Variable) → List s.ParameterValue → Type 0
  AreValuesFor None values = ⊥
  AreValuesFor (Some parameters) values = AreParameterValues parameters values

  abbrev mutual
    -- a statement, inside a loop or not, whose names are known and whose types fit
    pub IsTypedStatement : Bool → s.TypedStatement → Type 0
    IsTypedStatement loop (s.Empty place) = Unit {0}
    IsTypedStatement loop (s.Assign place variable value) =
        IsTarget variable × IsTypedExpression value × (reference_type names variable ≡ Some (expression_type value))
    IsTypedStatement loop (s.Invoke place instance number arguments) = IsTypedCall instance number arguments
    IsTypedStatement loop (s.Evaluate place value) = IsTypedExpression value
    IsTypedStatement loop (s.SetParameters place instance values) = AreValuesFor (thread_parameters names.threads instance) values
    IsTypedStatement loop (s.Construct place instance constructor arguments) = ⊥
    IsTypedStatement loop (s.Leave place) = IsTrue loop
    IsTypedStatement loop (s.Continue place) = IsTrue loop
    IsTypedStatement loop (s.Return place) = names.returns ≡ None
    IsTypedStatement loop (s.ReturnValue place value) = IsTypedExpression value × (names.returns ≡ Some (expression_type value))
    IsTypedStatement loop (s.Output place numbers) = IsTrue names.is_system × AreOutputs numbers
    IsTypedStatement loop (s.Put place items) = AreTypedItems items
    IsTypedStatement loop (s.If place condition on) = IsTypedCondition condition × IsTypedStatement loop on
    IsTypedStatement loop (s.IfElse place condition on off) = IsTypedCondition condition × IsTypedStatement loop on × IsTypedStatement loop off
    IsTypedStatement loop (s.Select place whens) = AreTypedWhens loop whens
    IsTypedStatement loop (s.SelectValue place value whens) = IsTypedExpression value × AreTypedValueWhens loop (class_of (expression_type value)) whens
    IsTypedStatement loop (s.Block place body) = AreTypedStatements loop body
    IsTypedStatement loop (s.Count place variable start end step body) =
        IsTarget variable × (reference_type names variable ≡ Some BigInt) × IsTypedInteger start × IsTypedInteger end × IsTypedStep step × AreTypedStatements true body
    IsTypedStatement loop (s.While place condition body) = IsTypedCondition condition × AreTypedStatements true body
    IsTypedStatement loop (s.Until place condition body) = IsTypedCondition condition × AreTypedStatements true body

    -- typed statements in order
    pub AreTypedStatements : Bool → s.TypedStatements → Type 0
    AreTypedStatements loop s.Finish = Unit {0}
    AreTypedStatements loop (s.Next first rest) = IsTypedStatement loop first × AreTypedStatements loop rest

    -- the parts of a `select`
    pub AreTypedWhens : Bool → s.TypedWhens → Type 0
    AreTypedWhens loop s.NoOtherwise = Unit {0}
    AreTypedWhens loop (s.Otherwise statement) = IsTypedStatement loop statement
    AreTypedWhens loop (s.When tests statement rest) = AreTypedConditions tests × IsTypedStatement loop statement × AreTypedWhens loop rest

    -- the parts of a `select` over values of a kind
    pub AreTypedValueWhens : Bool → TypeClass → s.TypedWhens → Type 0
    AreTypedValueWhens loop kind s.NoOtherwise = Unit {0}
    AreTypedValueWhens loop kind (s.Otherwise statement) = IsTypedStatement loop statement
    AreTypedValueWhens loop kind (s.When tests statement rest) =
        AreTypedValues kind tests × IsTypedStatement loop statement × AreTypedValueWhens loop kind rest

-- ---- surely returning

abbrev mutual
  -- a statement surely returns: `return`, a block that does, an `if` both of whose parts do, a `select` with `otherwise` all of
  -- whose parts do
  pub SurelyReturns : s.TypedStatement → Type 0
  SurelyReturns (s.Return place) = Unit {0}
  SurelyReturns (s.ReturnValue place value) = Unit {0}
  SurelyReturns (s.Block place body) = ListSurelyReturns body
  SurelyReturns (s.IfElse place condition on off) = SurelyReturns on × SurelyReturns off
  SurelyReturns (s.Select place whens) = WhensSurelyReturn whens
  SurelyReturns (s.SelectValue place value whens) = WhensSurelyReturn whens
  SurelyReturns _ = ⊥

  -- a list of statements surely returns where its last statement does
  pub ListSurelyReturns : s.TypedStatements → Type 0
  ListSurelyReturns s.Finish = ⊥
  ListSurelyReturns (s.Next first s.Finish) = SurelyReturns first
  ListSurelyReturns (s.Next first (s.Next second rest)) = ListSurelyReturns (s.Next second rest)

  -- all parts of a `select` surely return, and one of them is `otherwise`
  pub WhensSurelyReturn : s.TypedWhens → Type 0
  WhensSurelyReturn s.NoOtherwise = ⊥
  WhensSurelyReturn (s.Otherwise statement) = SurelyReturns statement
  WhensSurelyReturn (s.When tests statement rest) = SurelyReturns statement × WhensSurelyReturn rest

-- ---- units

-- a method that returns a value surely returns
abbrev pub ReturnsWhatItSays : MethodTree → Option Ty → Type 0
ReturnsWhatItSays method None = Unit {0}
ReturnsWhatItSays method (Some ty) = ListSurelyReturns method.body

-- each type is in bounds
abbrev pub AreInBounds : List Variable → Type 0
AreInBounds variables = AllByRecursion (λ (v : Variable). IsTrue (in_bounds v.ty)) variables

-- the number of the first method of this name, counted from a number on
abbrev pub method_number : ℕ → List MethodTree → List ℕ → Option ℕ
method_number number methods name = position_from (λ (m : MethodTree). bytes_eq m.name name) number methods

-- no name stands twice in a list
abbrev pub are_distinct : List (List ℕ) → Bool
are_distinct [] = true
are_distinct (name ∷ names) = not (is_listed names name) && are_distinct names

-- the names of variables
abbrev pub variable_names : List Variable → List (List ℕ)
variable_names variables = map (λ (v : Variable). v.name) variables

-- variables of distinct names whose types are in bounds
abbrev pub AreTypedVariables : List Variable → Type 0
AreTypedVariables variables = AreInBounds variables × IsTrue (are_distinct (variable_names variables))

-- what a method among these globals, methods and hash objects may name
abbrev pub names_in_method : (Global → Option Ty) → (Option (List ℕ) → List MethodTree) → DeclaredObjects → MethodTree → NamesInScope
names_in_method globals methods objects method = record {
  globals = globals;
  locals = with_parameters_of method.parameters method.locals;
  methods = methods;
  objects = objects;
  threads = [];
  is_system = false;
  outputs = 0;
  returns = method.returns;
}

-- a method among these globals, methods and hash objects
abbrev pub IsTypedMethod : (Global → Option Ty) → (Option (List ℕ) → List MethodTree) → DeclaredObjects → MethodTree → Type 0
IsTypedMethod globals methods objects method =
    AreTypedVariables (with_parameters_of method.parameters method.locals)
    × AreTypedStatements (names_in_method globals methods objects method) false method.body
    × ReturnsWhatItSays method method.returns

-- methods among these globals, methods and hash objects
abbrev pub AreTypedMethods : (Global → Option Ty) → (Option (List ℕ) → List MethodTree) → DeclaredObjects → List MethodTree → Type 0
AreTypedMethods globals methods objects [] = Unit {0}
AreTypedMethods globals methods objects (m ∷ more) = IsTypedMethod globals methods objects m × AreTypedMethods globals methods objects more

-- the type of a flag of this name, where the list has it
abbrev pub flag_type : Bool → Option Ty
flag_type is_there = if is_there then Some BigInt else None

-- a BY variable has this name
abbrev pub is_by : List ByVariable → List ℕ → Bool
is_by [] name = false
is_by (by ∷ bys) name = if bytes_eq by.name name then true else is_by bys name

-- an `in=` flag has this name
abbrev pub is_flag_of : Option (List ℕ) → List ℕ → Bool
is_flag_of None name = false
is_flag_of (Some flag) name = bytes_eq flag name

-- an input has an `in=` flag of this name
abbrev pub is_present : List Input → List ℕ → Bool
is_present [] name = false
is_present (input ∷ inputs) name = if is_flag_of input.present name then true else is_present inputs name

-- the globals of a program with their types: variables, columns, parameters and flags
abbrev pub globals_of : UnitTree → Global → Option Ty
globals_of p (Named name) = type_in (data_vector p) name
globals_of p (Parameter name) = type_in p.parameters name
globals_of p (First name) = flag_type (is_by (bys_of p.reading) name)
globals_of p (Last name) = flag_type (is_by (bys_of p.reading) name)
globals_of p (Present name) = flag_type (is_present (inputs_of p.reading) name)

-- the globals of a package with their types: its variables
abbrev pub package_globals : List Variable → Global → Option Ty
package_globals variables (Named name) = type_in variables name
package_globals variables _ = None

-- the methods that the methods of a package may call: its own
abbrev pub package_methods : List MethodTree → Option (List ℕ) → List MethodTree
package_methods methods None = methods
package_methods methods (Some instance) = []

-- what a system method of a program with these locals may name
abbrev pub names_in_body : UnitTree → List Variable → NamesInScope
names_in_body p locals = record {
  globals = globals_of p;
  locals = locals;
  methods = methods_of p;
  objects = p.objects;
  threads = [];
  is_system = true;
  outputs = length p.outputs;
  returns = None;
}

-- likewise `init`, which may set the parameters of its instances of thread programs
abbrev pub names_in_init : UnitTree → List Variable → NamesInScope
names_in_init p locals = record (names_in_body p locals) { threads = p.threads }

-- a system method of a program
abbrev pub IsTypedBody : UnitTree → BodyTree → Type 0
IsTypedBody p body = AreTypedVariables body.locals × AreTypedStatements (names_in_body p body.locals) false body.statements

-- statements behind the constructors of these instances, in order: each calls the first method of its package's name, where
-- there is one
abbrev pub AreBehindConstructors : NamesInScope → List InstanceTree → s.TypedStatements → Type 0
AreBehindConstructors names [] statements = AreTypedStatements names false statements
AreBehindConstructors names (i ∷ instances) (s.Next (s.Construct place instance constructor arguments) rest) =
    (instance ≡ i.name) × (constructor ≡ method_number 0 i.methods i.package') × HasConstructorArguments names instance constructor arguments
    × AreBehindConstructors names instances rest
AreBehindConstructors names (i ∷ instances) _ = ⊥

-- `init`, with the constructors of the program's instances in front
abbrev pub IsTypedInit : UnitTree → BodyTree → Type 0
IsTypedInit p body = AreTypedVariables body.locals × AreBehindConstructors (names_in_init p body.locals) p.instances body.statements

-- the variables of a hash object are globals of their types
abbrev pub AreHashVariables : (Global → Option Ty) → List HashVariable → Type 0
AreHashVariables globals [] = Unit {0}
AreHashVariables globals (v ∷ variables) = (globals v.global ≡ Some v.ty) × IsTrue (in_bounds v.ty) × AreHashVariables globals variables

-- a call may set the data variables of a hash object
abbrev pub AreHashTargets : List HashVariable → Type 0
AreHashTargets variables = AllByRecursion (λ (v : HashVariable). IsTarget (At v.global)) variables

-- the type of the column of this name
abbrev pub column_type : Columns → List ℕ → Option Ty
column_type [] name = None
column_type (c ∷ columns) name = if bytes_eq c.name name then Some c.ty else column_type columns name

-- each variable of a hash object takes the values of the column of its name
abbrev pub AreLoadedVariables : Columns → List HashVariable → Type 0
AreLoadedVariables columns [] = Unit {0}
AreLoadedVariables columns (v ∷ variables) =
    ((ty : Ty) × (column_type columns (global_name v.global) ≡ Some ty) × IsTrue (takes v.ty ty)) × AreLoadedVariables columns variables

-- the table of a hash object, where there is one: its columns have distinct names and types in bounds, and one is there for each
-- variable
abbrev pub IsTypedLoad : DeclaredHash → Option LoadedTable → Type 0
IsTypedLoad hash None = Unit {0}
IsTypedLoad hash (Some loaded) =
    IsTrue (is_schema loaded.columns) × AreLoadedVariables loaded.columns hash.key_variables × AreLoadedVariables loaded.columns hash.data_variables

-- hash objects among these globals
abbrev pub AreTypedHashes : (Global → Option Ty) → List DeclaredHash → Type 0
AreTypedHashes globals [] = Unit {0}
AreTypedHashes globals (h ∷ hashes) =
    (AreHashVariables globals h.key_variables × AreHashVariables globals h.data_variables × AreHashTargets h.data_variables × IsTypedLoad h h.loaded)
    × AreTypedHashes globals hashes

-- each iterator is one of a hash object that is there
abbrev pub AreTypedIterators : List DeclaredHash → List DeclaredIterator → Type 0
AreTypedIterators hashes [] = Unit {0}
AreTypedIterators hashes (i ∷ iterators) = IsTrue (is_some (hash_named hashes i.hash)) × AreTypedIterators hashes iterators

-- the hash objects and iterators of a unit with these globals
abbrev pub AreTypedObjects : (Global → Option Ty) → DeclaredObjects → Type 0
AreTypedObjects globals objects = AreTypedHashes globals objects.hashes × AreTypedIterators objects.hashes objects.iterators

-- the names of hash objects and iterators
abbrev pub object_names : DeclaredObjects → List (List ℕ)
object_names objects = map (λ (h : DeclaredHash). h.name) objects.hashes ++ map (λ (i : DeclaredIterator). i.name) objects.iterators

-- the instances of a program
abbrev pub AreTypedInstances : List InstanceTree → Type 0
AreTypedInstances [] = Unit {0}
AreTypedInstances (i ∷ instances) =
    AreTypedVariables i.variables
    × IsTrue (are_distinct (variable_names i.variables ++ object_names i.objects))
    × AreTypedObjects (package_globals i.variables) i.objects
    × AreTypedMethods (package_globals i.variables) (package_methods i.methods) i.objects i.methods
    × AreTypedInstances instances

-- the names that a program gives to its variables, hash objects, iterators and instances
abbrev pub names_given : UnitTree → List (List ℕ)
names_given p =
    variable_names (data_vector p) ++ object_names p.objects ++ map (λ (i : InstanceTree). i.name) p.instances ++ map (λ (i : ThreadInstance). i.name) p.threads

-- each of these columns is a variable whose type takes the values of the column
abbrev pub AreVariables : List Variable → Columns → Type 0
AreVariables variables [] = Unit {0}
AreVariables variables (c ∷ columns) =
    ((ty : Ty) × (type_in variables c.name ≡ Some ty) × IsTrue (takes ty c.ty)) × AreVariables variables columns

-- each BY variable is one of these columns
abbrev pub AreByColumns : List ByVariable → Columns → Type 0
AreByColumns bys columns = AllByRecursion (λ (by : ByVariable). IsTrue (has_column by.name columns)) bys

-- the tables of a reading statement: the columns of each have distinct names and types in bounds and are variables, and every BY
-- variable is among them
abbrev pub AreTypedInputs : List Variable → List ByVariable → List Input → Type 0
AreTypedInputs variables bys [] = Unit {0}
AreTypedInputs variables bys (input ∷ inputs) =
    IsTrue (is_schema input.columns) × AreVariables variables input.columns × AreByColumns bys input.columns × AreTypedInputs variables bys inputs

-- a `merge` has a BY variable; without one, loads of one key would not set all columns
abbrev pub MergesBy : Reading → Type 0
MergesBy (Merge inputs [] retains) = ⊥
MergesBy _ = Unit {0}

-- a reading statement: the columns that it sets are variables; it has at most 16 tables and 16 BY variables, a `merge` has one, and
-- it has 1 to 64 workers
abbrev pub IsTypedReading : List Variable → Reading → Type 0
IsTypedReading variables (From instance workers columns) = (1 ≤ workers) × (workers ≤ 64) × AreVariables variables columns
IsTypedReading variables reading =
    (length (inputs_of reading) ≤ 16) × (length (bys_of reading) ≤ 16) × AreTypedInputs variables (bys_of reading) (inputs_of reading) × MergesBy reading

-- each column of an output has the type of its variable
abbrev pub AreOutputColumns : List Variable → List OutputColumn → Type 0
AreOutputColumns variables columns = AllByRecursion (λ (c : OutputColumn). type_in variables c.source ≡ Some c.ty) columns

-- the columns of each output are variables, their names are distinct, and there is at least one
abbrev pub AreTypedOutputs : List Variable → List OutputTable → Type 0
AreTypedOutputs variables [] = Unit {0}
AreTypedOutputs variables (output ∷ outputs) =
    (1 ≤ length output.columns) × IsTrue (is_schema (output_columns output)) × AreOutputColumns variables output.columns × AreTypedOutputs variables outputs

-- the names of outputs
abbrev pub names_of_outputs : List OutputTable → List (List ℕ)
names_of_outputs outputs = map (λ (o : OutputTable). o.name) outputs

-- a data program, which has no name of its own, has no parameters
abbrev pub IsTypedHead : Option (List ℕ) → List Variable → Type 0
IsTypedHead None parameters = parameters ≡ []
IsTypedHead (Some name) parameters = Unit {0}

-- the parameters of the instances of thread programs
abbrev pub AreTypedThreads : List ThreadInstance → Type 0
AreTypedThreads [] = Unit {0}
AreTypedThreads (i ∷ instances) = AreTypedVariables i.parameters × AreTypedThreads instances

-- a program without the thread program that it reads from
pub record IsTypedUnit (p : UnitTree) : Type 0 where
  pub head : IsTypedHead p.thread p.parameters
  pub variables : AreTypedVariables (data_vector p)
  pub parameters : AreTypedVariables p.parameters
  pub names : IsTrue (are_distinct (names_given p))
  pub instances : AreTypedInstances p.instances
  pub objects : AreTypedObjects (globals_of p) p.objects
  pub threads : AreTypedThreads p.threads
  pub reading : IsTypedReading (data_vector p) p.reading
  pub outputs : AreTypedOutputs (data_vector p) p.outputs
  pub output_names : IsTrue (are_distinct (names_of_outputs p.outputs))
  pub methods : AreTypedMethods (globals_of p) (methods_of p) p.objects p.methods
  pub init : IsTypedInit p p.init
  pub run : IsTypedBody p p.run
  pub term : IsTypedBody p p.term

-- a reading statement that reads from a thread program
abbrev pub ReadsStage : Reading → Type 0
ReadsStage (From instance workers columns) = Unit {0}
ReadsStage _ = ⊥

-- a reading statement that reads tables or nothing
abbrev pub ReadsNoStage : Reading → Type 0
ReadsNoStage (From instance workers columns) = ⊥
ReadsNoStage _ = Unit {0}

-- the columns that a program reads from a thread program are those of its one output
abbrev pub AreStageColumns : Columns → List OutputTable → Type 0
AreStageColumns columns (output ∷ []) = columns ≡ output_columns output
AreStageColumns columns _ = ⊥

-- a program and the thread program that it reads from fit: that one has a name, its columns are those of that one's output, and
-- its instance has that one's parameters
abbrev pub FitsStage : UnitTree → UnitTree → Type 0
FitsStage p stage =
    ReadsStage p.reading × IsTrue (is_some stage.thread) × AreStageColumns (stage_columns p.reading) stage.outputs
    × (thread_parameters p.threads (stage_instance p.reading) ≡ Some stage.parameters)

-- a typed program: it and the thread program that it reads from are typed
abbrev pub IsTypedProgram : ProgramTree → Type 0
IsTypedProgram (OverTables p) = IsTypedUnit p × ReadsNoStage p.reading
IsTypedProgram (OverStage p stage) = IsTypedUnit p × FitsStage p (reader_of stage) × IsTypedProgram stage

-- a typed data program: it has no name of its own
abbrev pub IsTypedDataProgram : ProgramTree → Type 0
IsTypedDataProgram p = IsTypedProgram p × ((reader_of p).thread ≡ None)

-- ---- what is kept

-- the variables of the instance of this name
abbrev pub instance_variables : List InstanceTree → List ℕ → List Variable
instance_variables [] name = []
instance_variables (i ∷ instances) name = if bytes_eq i.name name then i.variables else instance_variables instances name

-- the type of the parameter of this name, where there are parameters
abbrev pub parameter_type : Option (List Variable) → List ℕ → Option Ty
parameter_type None name = None
parameter_type (Some parameters) name = type_in parameters name

-- the type of what a location of a program holds, where it is one of its variables, parameters or flags, a variable of an instance
-- of a package, or a parameter of an instance of a thread program
abbrev pub location_type : UnitTree → Home → Global → Option Ty
location_type p None global = globals_of p global
location_type p (Some instance) (Parameter name) = parameter_type (thread_parameters p.threads instance) name
location_type p (Some instance) global = package_globals (instance_variables p.instances instance) global

-- a row has a value of its type for each variable of a hash object
abbrev pub row_fits_variables : Row → List HashVariable → Bool
row_fits_variables [] [] = true
row_fits_variables (v ∷ row) (x ∷ variables) = fits v x.ty && row_fits_variables row variables
row_fits_variables _ _ = false

-- each item has a key and data for the variables of its hash object
abbrev pub items_fit_variables : DeclaredHash → HashItems → Bool
items_fit_variables hash items =
    list_all (λ (item : HashItem). row_fits_variables item.0 hash.key_variables && row_fits_variables item.1 hash.data_variables) items

-- so many are a BIGINT
abbrev pub is_countable : ℕ → Bool
is_countable n = fits (Int (pos n)) BigInt

-- the items fit the variables of their hash object, and their number is a BIGINT
abbrev pub items_fit : DeclaredHash → HashItems → Bool
items_fit hash items = is_countable (length items) && items_fit_variables hash items

-- what is kept fits: each value the type of its location, and the items of each hash object its variables
pub record StorageFits (p : UnitTree) (c : Storage) : Type 0 where
  pub values : (at : Location) (ty : Ty) → location_type p at.home at.global ≡ Some ty → IsTrue (fits (held (c at)) ty)
  pub items : (home : Home) (name : List ℕ) (hash : DeclaredHash) → hash_named (objects_of p home).hashes name ≡ Some hash
      → IsTrue (items_fit hash (items_held (c (object_at home name))))
