-- What becomes of a unit of a source: the rules of types that it breaks, and its typed program or package.
use Rattle.std.specs.Prelude.{ℕ, Bool, true, false, ◌||◌, ◌&&◌, not, bytes_eq, codes, if◌then◌else◌, List, [], ◌∷◌, ◌++◌, map, filter, is_some, unwrap_or, Option, Some, None}
use Rattle.std.specs.List.{list_any}
use Rattle.std.specs.Option.{option_map, option_map_or}
use Rattle.ds2_base.specs.declared.place.Place.{Place}
use Rattle.ds2_base.specs.declared.place.Refusal.{Refusal}
use Rattle.ds2_token.specs.Words.{is_word, is_table_name}
use Rattle.ds2_token.specs.declared.token.Token.{Token}
use Rattle.ds2_tree.specs.Expressions.{is_null_word}
use Rattle.ds2_tree.specs.Globals.{Method}
use Rattle.ds2_tree.specs.declared.globals.Constant.{Constant}
use Rattle.ds2_tree.specs.declared.readings.ByVariable as source_by
use Rattle.ds2_tree.specs.declared.readings.Input as source_input
use Rattle.ds2_tree.specs.declared.readings.InputFlag.{InputFlag}
use Rattle.ds2_tree.specs.declared.readings.Reading as source_reading
use Rattle.ds2_tree.specs.declared.readings.Reading.TheVariants as read_as
use Rattle.ds2_tree.specs.declared.readings.Threads.{Threads}
use Rattle.ds2_tree.specs.declared.units.OutputOption.{OutputOption}
use Rattle.ds2_tree.specs.declared.units.OutputOption.TheVariants as option
use Rattle.ds2_tree.specs.declared.units.OutputTable as source_output
use Rattle.ds2_tree.specs.declared.units.Renaming.{Renaming}
use Rattle.ds2_value.specs.Row.{Columns}
use Rattle.ds2_value.specs.Types.{join_of}
use Rattle.ds2_value.specs.declared.ty.Ty.{Ty}
use Rattle.ds2_value.specs.declared.ty.Ty.TheVariants.{BigInt}
use Rattle.ds2_meaning.specs.declared.globals.OutputColumn.{OutputColumn}
use Rattle.ds2_meaning.specs.declared.globals.OutputTable as typed_output
use Rattle.ds2_meaning.specs.declared.globals.Variable as typed
use Rattle.ds2_meaning.specs.declared.hashes.DeclaredHash.{DeclaredHash}
use Rattle.ds2_meaning.specs.declared.hashes.DeclaredIterator.{DeclaredIterator}
use Rattle.ds2_meaning.specs.declared.hashes.HashVariable.{HashVariable}
use Rattle.ds2_meaning.specs.declared.hashes.LoadedTable.{LoadedTable}
use Rattle.ds2_meaning.specs.declared.hashes.ThreadInstance.{ThreadInstance}
use Rattle.ds2_meaning.specs.declared.location.Reference.{Reference}
use Rattle.ds2_meaning.specs.declared.location.Reference.TheVariants.{At, Local}
use Rattle.ds2_meaning.specs.declared.readings.ByVariable as typed_by
use Rattle.ds2_meaning.specs.declared.readings.Input as typed_input
use Rattle.ds2_meaning.specs.declared.readings.MentionedTable.{MentionedTable}
use Rattle.ds2_meaning.specs.declared.readings.Reading as typed_reading
use Rattle.ds2_meaning.specs.declared.readings.Reading.TheVariants as typed_as
use Rattle.ds2_meaning.specs.declared.refusals.TypeKind.{TypeKind}
use Rattle.ds2_meaning.specs.declared.refusals.TypeKind.TheVariants.{TypeClash, NoReturn}
use Rattle.ds2_meaning.specs.HashObjects.{DeclaredObjects}
use Rattle.ds2_meaning.specs.IsTyped.{type_in, expression_type, method_number}
use Rattle.ds2_meaning.specs.Method.{MethodTree}
use Rattle.ds2_meaning.specs.ProgramTree.{BodyTree, InstanceTree, UnitTree, ProgramTree, OverTables, OverStage, reader_of}
use Rattle.ds2_meaning.specs.TypedExpression.{TypedExpression, Prefixed}
use Rattle.ds2_meaning.specs.TypedStatement.{TypedStatement, Construct, TypedStatements, Finish, Next}
use Rattle.ds2_names.specs.NameRules.{from_each, options_of, listed_in_statements, renamings_of, output_name, columns_left, spelled_number}
use Rattle.ds2_names.specs.Refusals.{type_rank, least_refusal, broken_at}
use Rattle.ds2_names.specs.SourceLimits.{mentioned_table}
use Rattle.ds2_names.specs.SourceUnit.{TableColumns, UnitKind, OfPackage, OfThread, OfData, is_package, UnitSource, SourceInstance, InstanceOf, AnyPackage, HashObject, HashIterator, AnyThread, spelled_name, spelled_text, names_alone, source_methods, bys_of_reading}
use Rattle.ds2_names.specs.Uses.{method_named}
use Rattle.ds2_elaboration.specs.ExpressionTypes.{TypeScope, ObjectCalls, InstanceCalls, HashCalls, IteratorCalls, ParameterCalls, ObjectInScope, KnownVariable, variable_typing, global_variable, constant_node, ElaboratedArguments, no_arguments, arguments_for, callable_methods}
use Rattle.ds2_elaboration.specs.FunctionTypes.{ElaboratedArgument}
use Rattle.ds2_elaboration.specs.OperatorTypes.{minus_prefix}
use Rattle.ds2_elaboration.specs.SourceTypes.{declared_variables, elaborated_parameters, variables_in_method, returned_type, is_joined_to, type_of_column, program_variables, parameter_variables, unit_names, unit_stage, column_variables, unjoined_columns, clashing_tables, vector_variables}
use Rattle.ds2_elaboration.specs.StatementTypes.{statements_refusals, statements_node, list_surely_returns}
use Rattle.ds2_elaboration.specs.Typings.{TypeRefusals, type_refusal_at, clash_unless, where_known, ElaboratedExpression, elaborated_null, form_of_operands}
use Rattle.ds2_elaboration.specs.UnitsBefore.{PackageTypes, UnitsBefore, package_types, typed_thread_named, typed_stage_columns}

-- ---- outputs

-- the outputs that a program makes; `_null_` is none
abbrev pub made_outputs : UnitSource → List source_output.OutputTable
made_outputs u = filter (λ (o : source_output.OutputTable). not (bytes_eq (spelled_name o.table) (codes "_null_"))) u.outputs

-- the names of the outputs of a unit: those that a data program makes, the one of a thread program, which has its name, and none of
-- a package
abbrev pub made_names : UnitKind → UnitSource → List (List ℕ)
made_names OfPackage u = []
made_names OfThread u = option_map_or (λ (t : Token). spelled_name t ∷ []) u.name []
made_names OfData u = map (λ (o : source_output.OutputTable). spelled_name o.table) (made_outputs u)

-- a type that is there; BIGINT stands for none, which is never met
abbrev pub type_or_bigint : Option Ty → Ty
type_or_bigint None = BigInt
type_or_bigint (Some ty) = ty

-- the name of the table that a thread program of this name makes: the same where it is the name of a table, else `rows`
abbrev pub table_of_thread : List ℕ → List ℕ
table_of_thread name = if is_table_name name then name else codes "rows"

-- a column of an output: its new name where it is renamed, and the type of its variable
abbrev pub made_column : List typed.Variable → List Renaming → List ℕ → OutputColumn
made_column variables renamings name =
    record { name = (output_name renamings name).name; source = name; ty = type_or_bigint (type_in variables name) }

-- an option says `overwrite=yes`
abbrev pub says_overwrite : OutputOption → Bool
says_overwrite (option.Overwrite keyword equals answer) = is_word (codes "yes") answer
says_overwrite _ = false

-- ---- the reading statement

-- a table of a reading statement, behind data programs that make these tables
abbrev pub read_input : TableColumns → List MentionedTable → source_input.Input → typed_input.Input
read_input tables made i = record {
  table = mentioned_table made (spelled_name i.table);
  present = option_map (λ (f : InputFlag). spelled_name f.name) i.flag;
  columns = tables (spelled_name i.table);
}

-- a BY variable
abbrev pub read_by : source_by.ByVariable → typed_by.ByVariable
read_by b = record { name = spelled_name b.name; is_descending = is_some b.descending }

-- how many workers `set from` asks for: one, where it does not say
abbrev pub asked_workers : Option Threads → ℕ
asked_workers None = 1
asked_workers (Some threads) = spelled_number threads.number

-- the reading statement of a program with `run`: without one there is one load. The columns are those of the thread program that
-- `set from` reads from
abbrev pub read_statement : TableColumns → List MentionedTable → Columns → Option source_reading.Reading → typed_reading.Reading
read_statement tables made columns None = typed_as.Once
read_statement tables made columns (Some (read_as.Set keyword inputs end by)) =
    typed_as.Set (map (read_input tables made) inputs) (map read_by (bys_of_reading (Some (read_as.Set keyword inputs end by))))
read_statement tables made columns (Some (read_as.Merge keyword inputs retain end by)) =
    typed_as.Merge (map (read_input tables made) inputs) (map read_by by.variables) (is_some retain)
read_statement tables made columns (Some (read_as.SetFrom keyword from instance threads end)) =
    typed_as.From (spelled_name instance) (asked_workers threads) columns

-- what the loads of a program with this method `run`, or without one, are made of
abbrev pub reading_of_method : TableColumns → List MentionedTable → Columns → Option Method → typed_reading.Reading
reading_of_method tables made columns None = typed_as.Nothing
reading_of_method tables made columns (Some run) = read_statement tables made columns run.reading

-- ---- objects

-- what can be called on an instance behind these units
abbrev pub calls_of_sort : UnitsBefore → InstanceOf → ObjectCalls
calls_of_sort before (AnyPackage package' arguments) =
    InstanceCalls (option_map_or (λ (p : PackageTypes). p.sources) (package_types before.packages (spelled_name package')) [])
calls_of_sort before (HashObject keys items table) = HashCalls
calls_of_sort before (HashIterator hash) = IteratorCalls
calls_of_sort before (AnyThread thread) =
    ParameterCalls (option_map_or (λ p. (reader_of p).parameters) (typed_thread_named before.threads (spelled_name thread)) [])

-- an instance as its unit's methods see it
abbrev pub object_of_instance : UnitsBefore → SourceInstance → ObjectInScope
object_of_instance before i = record { name = spelled_name i.name; calls = calls_of_sort before i.sort }

-- a global as a key or data variable of a hash object; one that is not there is refused by the rules of names
abbrev pub hash_variable_of : Option KnownVariable → List HashVariable
hash_variable_of None = []
hash_variable_of (Some v) = of_reference v.reference
  where
    of_reference : Reference → List HashVariable
    of_reference (At global) = record { global = global; ty = v.ty } ∷ []
    of_reference (Local name) = []

-- the key or data variables of a hash object
abbrev pub typed_hash_variables : TypeScope → List Token → List HashVariable
typed_hash_variables scope names = from_each (λ (t : Token). hash_variable_of (global_variable scope (spelled_name t))) names

-- the table of which a hash object has the rows, behind data programs that make these tables
abbrev pub hash_load : TableColumns → List MentionedTable → Token → LoadedTable
hash_load tables made text = record { table = mentioned_table made (spelled_text text); columns = tables (spelled_text text) }

-- a hash object
abbrev pub hash_of_sort : TableColumns → List MentionedTable → TypeScope → List ℕ → InstanceOf → List DeclaredHash
hash_of_sort tables made scope name (HashObject keys items table) =
    record { name = name; key_variables = typed_hash_variables scope keys; data_variables = typed_hash_variables scope items; loaded = option_map (hash_load tables made) table } ∷ []
hash_of_sort tables made scope name _ = []

-- an iterator
abbrev pub iterator_of_sort : List ℕ → InstanceOf → List DeclaredIterator
iterator_of_sort name (HashIterator hash) = record { name = name; hash = spelled_text hash } ∷ []
iterator_of_sort name _ = []

-- TypeClash of a hash object: the column of a variable's name in the table does not join with the variable to the variable's type
abbrev pub clashing_load : Place → Columns → KnownVariable → Option Ty → TypeRefusals
clashing_load text columns v None = []
clashing_load text columns v (Some ty) = where_known (variable_typing v) (λ own. clash_unless (is_joined_to own (join_of own ty)) text)

-- those of a key or data variable
abbrev pub load_refusals : TableColumns → TypeScope → Token → Token → TypeRefusals
load_refusals tables scope text variable =
    option_map_or
    (λ (v : KnownVariable). clashing_load text.place (tables (spelled_text text)) v (type_of_column (spelled_name variable) (tables (spelled_text text))))
    (global_variable scope (spelled_name variable)) []

-- those of a hash object with a table
abbrev pub loaded_refusals : TableColumns → TypeScope → List Token → Option Token → TypeRefusals
loaded_refusals tables scope variables None = []
loaded_refusals tables scope variables (Some text) = from_each (load_refusals tables scope text) variables

-- ---- constructors

-- a number or text of a declaration of an instance, behind `-` or not
abbrev pub signed_node : Option Place → TypedExpression → TypedExpression
signed_node None node = node
signed_node (Some minus) node = Prefixed (minus_prefix (expression_type node)) node (expression_type node)

-- a constant of a declaration of an instance
abbrev pub elaborated_constant : Constant → ElaboratedExpression
elaborated_constant c =
    if is_null_word c.value then elaborated_null c.value.place else form_of_operands [] (signed_node c.minus (constant_node c.value))

-- the constants of a declaration of an instance, each with the place of its first token
abbrev pub constructor_arguments : List Constant → List ElaboratedArgument
constructor_arguments constants =
    map (λ (c : Constant). record { place = unwrap_or c.minus c.value.place; value = elaborated_constant c }) constants

-- the parameters of the constructor of a package: its method of its own name
abbrev pub constructor_of : PackageTypes → Option Method
constructor_of p = method_named p.sources p.name

-- the constants as arguments of the constructor, whose instance stands at this place; without a constructor there are none
abbrev pub arguments_of_constructor : Place → List Constant → Option Method → ElaboratedArguments
arguments_of_constructor place constants None = no_arguments []
arguments_of_constructor place constants (Some m) = arguments_for place (elaborated_parameters m) (constructor_arguments constants)

-- what the declaration of an instance of a package breaks
abbrev pub construction_refusals : Place → List Constant → Option PackageTypes → TypeRefusals
construction_refusals place constants None = []
construction_refusals place constants (Some p) = (arguments_of_constructor place constants (constructor_of p)).refusals

-- what the declaration of an instance breaks: of a hash object its table, of an instance of a package its constants
abbrev pub instance_refusals : TableColumns → UnitsBefore → TypeScope → SourceInstance → InstanceOf → TypeRefusals
instance_refusals tables before scope i (AnyPackage package' arguments) =
    construction_refusals i.name.place arguments (package_types before.packages (spelled_name package'))
instance_refusals tables before scope i (HashObject keys items table) = loaded_refusals tables scope (keys ++ items) table
instance_refusals tables before scope i _ = []

-- an instance of a package has its own copy of what the package declares
abbrev pub instance_of_package : List ℕ → Option PackageTypes → List InstanceTree
instance_of_package name None = []
instance_of_package name (Some p) =
    record { name = name; package' = p.name; variables = p.variables; objects = p.objects; methods = p.methods } ∷ []

-- an instance, where it is one of a package
abbrev pub instance_of_sort : UnitsBefore → List ℕ → InstanceOf → List InstanceTree
instance_of_sort before name (AnyPackage package' arguments) = instance_of_package name (package_types before.packages (spelled_name package'))
instance_of_sort before name _ = []

-- an instance of a thread program with that one's parameters
abbrev pub thread_instance_of : UnitsBefore → List ℕ → InstanceOf → List ThreadInstance
thread_instance_of before name (AnyThread thread) =
    option_map_or (λ p. record { name = name; parameters = (reader_of p).parameters } ∷ []) (typed_thread_named before.threads (spelled_name thread)) []
thread_instance_of before name _ = []

-- the statement that the declaration of an instance of a package is: a call of its constructor, where it has one
abbrev pub construction : Place → List ℕ → Place → List Constant → PackageTypes → TypedStatement
construction place name at constants p =
    Construct place name (method_number 0 p.methods p.name) (arguments_of_constructor at constants (constructor_of p)).arguments

-- the statement of an instance, where it is one of a package that is known
abbrev pub constructions : SourceInstance → List Constant → Option PackageTypes → List TypedStatement
constructions i constants None = []
constructions i constants (Some p) = construction i.keyword.place (spelled_name i.name) i.name.place constants p ∷ []

-- the statement that a declaration of an instance is, where it is one
abbrev pub constructions_of_sort : UnitsBefore → SourceInstance → InstanceOf → List TypedStatement
constructions_of_sort before i (AnyPackage package' arguments) = constructions i arguments (package_types before.packages (spelled_name package'))
constructions_of_sort before i _ = []

-- statements in front of others
abbrev pub in_front : List TypedStatement → TypedStatements → TypedStatements
in_front [] others = others
in_front (s ∷ statements) others = Next s (in_front statements others)

-- the constructors of instances, in order, before the statements of `init`
abbrev pub behind_constructors : UnitsBefore → List SourceInstance → TypedStatements → TypedStatements
behind_constructors before instances statements =
    in_front (from_each (λ (i : SourceInstance). constructions_of_sort before i i.sort) instances) statements

-- ---- methods

-- the methods of a unit that can be called: all of a package, and of a program all but `init`, `run` and `term`
abbrev pub methods_to_call : UnitKind → List Method → List Method
methods_to_call OfPackage methods = methods
methods_to_call _ methods = callable_methods methods

-- NoReturn: a method that returns a value does not surely return, at its name
abbrev pub return_rule : Method → TypeRefusals
return_rule m = if not (is_some m.returns) || list_surely_returns m.body then [] else type_refusal_at NoReturn m.name.place

-- a method is `init` of a program
abbrev pub is_init_method : UnitKind → Method → Bool
is_init_method kind m = not (is_package kind) && bytes_eq (spelled_name m.name) (codes "init")

-- a method may call something on an instance: in `init` on each, else on those that are none of a thread program
abbrev pub may_call_on : Bool → InstanceOf → Bool
may_call_on in_init (AnyThread thread) = in_init
may_call_on in_init _ = true

module _ (tables : TableColumns) (before : UnitsBefore) (u : UnitSource) where
  -- the instances that a unit declares
  abbrev pub instances_declared : List SourceInstance
  instances_declared = (unit_names tables before u).instances

  -- the objects that a method of a unit may call: in `init` all, and in another one those that are none of a thread program
  abbrev pub objects_for_method : (in_init : Bool) → List ObjectInScope
  objects_for_method in_init = map (object_of_instance before) (filter (λ (i : SourceInstance). may_call_on in_init i.sort) instances_declared)

  -- what a method of a unit sees, `init` or another one, with these parameters and locals and with the type that it returns
  abbrev pub scope_with : (in_init : Bool) → (locals : List typed.Variable) → (returns : Option Ty) → TypeScope
  scope_with in_init locals returns = record {
    variables = vector_variables tables before u;
    parameters = parameter_variables u;
    objects = objects_for_method in_init;
    unjoined = unjoined_columns tables before u;
    flags = names_alone (unit_names tables before u).flags;
    bys = names_alone (unit_names tables before u).bys;
    locals = locals;
    methods = methods_to_call u.kind (source_methods u.globals);
    outputs = made_names u.kind u;
    returns = returns;
  }

  -- what the statements of a method of a unit see
  abbrev pub scope_of_method : Method → TypeScope
  scope_of_method m = scope_with (is_init_method u.kind m) (variables_in_method m) (returned_type m.returns)

  -- what the declarations of a unit see
  abbrev pub scope_of_declarations : TypeScope
  scope_of_declarations = scope_with false [] None

  -- the rules of types that a method breaks
  abbrev pub method_refusals : Method → TypeRefusals
  method_refusals m = return_rule m ++ statements_refusals (scope_of_method m) m.body

  -- what a method becomes
  abbrev pub method_tree_of : Method → MethodTree
  method_tree_of m = record {
    name = spelled_name m.name;
    parameters = elaborated_parameters m;
    locals = declared_variables m.locals;
    returns = returned_type m.returns;
    body = statements_node (scope_of_method m) m.body;
  }

  -- what the methods that can be called become
  abbrev pub method_trees : List MethodTree
  method_trees = map method_tree_of (methods_to_call u.kind (source_methods u.globals))

  -- what a system method becomes; one that is not there has no statements
  abbrev pub body_of_method : Option Method → BodyTree
  body_of_method None = record { locals = []; statements = Finish }
  body_of_method (Some m) = record { locals = declared_variables m.locals; statements = statements_node (scope_of_method m) m.body }

  -- what the system method of this name becomes
  abbrev pub system_body : List ℕ → BodyTree
  system_body name = body_of_method (method_named (source_methods u.globals) name)

  -- ---- the unit

  -- the rules of types that a unit breaks: those of its columns, of its instances, and of its methods
  abbrev pub broken_type_rules : TypeRefusals
  broken_type_rules =
      broken_at TypeClash (clashing_tables tables before u)
      ++ from_each (λ (i : SourceInstance). instance_refusals tables before scope_of_declarations i i.sort) instances_declared
      ++ from_each method_refusals (source_methods u.globals)

  -- the refusal of the types of a unit, where there is one: that of the least place, and at one place the first kind
  abbrev pub type_refusal : Option (Refusal TypeKind)
  type_refusal = least_refusal type_rank broken_type_rules

  -- the hash objects and iterators of a unit
  abbrev pub unit_objects : DeclaredObjects
  unit_objects = record {
    hashes = from_each (λ (i : SourceInstance). hash_of_sort tables before.names.made scope_of_declarations (spelled_name i.name) i.sort) instances_declared;
    iterators = from_each (λ (i : SourceInstance). iterator_of_sort (spelled_name i.name) i.sort) instances_declared;
  }

  -- the instances of packages of a unit
  abbrev pub package_instances : List InstanceTree
  package_instances = from_each (λ (i : SourceInstance). instance_of_sort before (spelled_name i.name) i.sort) instances_declared

  -- the instances of thread programs of a unit
  abbrev pub thread_instances : List ThreadInstance
  thread_instances = from_each (λ (i : SourceInstance). thread_instance_of before (spelled_name i.name) i.sort) instances_declared

  -- the variables that a unit retains from one load to the next
  abbrev pub retained_variables : List (List ℕ)
  retained_variables = listed_in_statements (codes "retain") u.globals

  -- ---- programs

  -- an output of a data program, with its columns in the order of the vector
  abbrev pub made_output : source_output.OutputTable → typed_output.OutputTable
  made_output o = record {
    name = spelled_name o.table;
    overwrites = list_any says_overwrite (options_of o.options);
    columns = map (made_column (vector_variables tables before u) (renamings_of o)) (columns_left (unit_names tables before u) (options_of o.options));
  }

  -- the one output of a thread program of this name
  abbrev pub thread_output : Token → typed_output.OutputTable
  thread_output name = record {
    name = table_of_thread (spelled_name name);
    overwrites = false;
    columns = map (made_column (vector_variables tables before u) []) (columns_left (unit_names tables before u) []);
  }

  -- the outputs of a unit of this kind: of a thread program one, and none of a package
  abbrev pub unit_outputs : UnitKind → List typed_output.OutputTable
  unit_outputs OfPackage = []
  unit_outputs OfThread = option_map_or (λ (name : Token). thread_output name ∷ []) u.name []
  unit_outputs OfData = map made_output (made_outputs u)

  -- what the loads of a program are made of: without `run` there is none
  abbrev pub program_reading : typed_reading.Reading
  program_reading =
      reading_of_method tables before.names.made (typed_stage_columns (unit_stage tables before u)) (method_named (source_methods u.globals) (codes "run"))

  -- `init` with the constructors of the program's instances in front
  abbrev pub init_with_constructors : BodyTree
  init_with_constructors =
      record (system_body (codes "init")) { statements = behind_constructors before (unit_names tables before u).instances (system_body (codes "init")).statements }

  -- what a data program or a thread program becomes, over these columns of tables and behind these units: its name where it is a thread
  -- program, its variables, its objects and instances, what it reads and writes, and its methods
  abbrev pub typed_unit : UnitTree
  typed_unit = record {
    thread = option_map spelled_name u.name;
    parameters = parameter_variables u;
    declared = program_variables u;
    columns = column_variables tables before u;
    retained = retained_variables;
    instances = package_instances;
    objects = unit_objects;
    threads = thread_instances;
    reading = program_reading;
    outputs = unit_outputs u.kind;
    methods = method_trees;
    init = init_with_constructors;
    run = system_body (codes "run");
    term = system_body (codes "term");
  }

  -- with the thread program that it reads from, where it reads from one
  abbrev pub over_stage_read : Option ProgramTree → ProgramTree
  over_stage_read None = OverTables typed_unit
  over_stage_read (Some stage) = OverStage typed_unit stage

  -- what a data program or a thread program becomes with the thread program that it reads from
  abbrev pub typed_program : ProgramTree
  typed_program = over_stage_read (unit_stage tables before u)

  -- ---- packages

  -- what a package of this name becomes
  abbrev pub typed_package : List ℕ → PackageTypes
  typed_package name = record {
    name = name;
    sources = source_methods u.globals;
    variables = program_variables u;
    objects = unit_objects;
    methods = method_trees;
  }
