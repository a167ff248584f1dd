-- What a unit of a source gives names to, each with its place.
use Rattle.std.specs.Prelude.{ℕ, Bool, ◌||◌, ◌&&◌, ◌==◌, nat_lt, bytes_eq, codes, if◌then◌else◌, List, [], ◌∷◌, ◌++◌, map, filter, true, false, not, Option, Some, None}
use Rattle.std.specs.List.{find}
use Rattle.std.specs.Char.{to_ascii_lowercase}
use Rattle.ds2_base.specs.declared.place.Place.{Place}
use Rattle.ds2_token.specs.Forms.{between_quotes}
use Rattle.ds2_token.specs.Limits.{text_content}
use Rattle.ds2_token.specs.Words.{quoted_kind}
use Rattle.ds2_token.specs.declared.token.Token.{Token}
use Rattle.ds2_tree.specs.Globals.{Method, GlobalItem, Declared, Listed, Defined}
use Rattle.ds2_tree.specs.Units.{Package, Thread, DataProgram}
use Rattle.ds2_tree.specs.declared.globals.Bracketed.{Bracketed}
use Rattle.ds2_tree.specs.declared.globals.BracketedName.{BracketedName}
use Rattle.ds2_tree.specs.declared.globals.Constant.{Constant}
use Rattle.ds2_tree.specs.declared.globals.Constants.{Constants}
use Rattle.ds2_tree.specs.declared.globals.Declaration.TheVariants as declaration
use Rattle.ds2_tree.specs.declared.globals.HashSize.{HashSize}
use Rattle.ds2_tree.specs.declared.globals.HashTable.{HashTable}
use Rattle.ds2_tree.specs.declared.globals.Parameter as source_parameter
use Rattle.ds2_tree.specs.declared.globals.Parameters.{Parameters}
use Rattle.ds2_tree.specs.declared.globals.VariableDeclaration.{VariableDeclaration}
use Rattle.ds2_tree.specs.declared.readings.By.{By}
use Rattle.ds2_tree.specs.declared.readings.ByVariable as source_by
use Rattle.ds2_tree.specs.declared.readings.Input as source_input
use Rattle.ds2_tree.specs.declared.readings.InputFlag.{InputFlag}
use Rattle.ds2_tree.specs.declared.readings.Reading as source_reading
use Rattle.ds2_tree.specs.declared.readings.Reading.TheVariants as reading
use Rattle.ds2_tree.specs.declared.units.OutputTable as source_output
use Rattle.ds2_value.specs.Row.{Columns}
use Rattle.ds2_meaning.specs.ProgramTree.{is_listed}
use Rattle.ds2_names.specs.declared.placed.PlacedName as placed
use Rattle.ds2_names.specs.declared.schemas.NamedSchema.{NamedSchema}

-- the columns of each table that a unit may mention, by the table's name: those of the store, and those that data programs make
abbrev pub TableColumns : Type 0
TableColumns = List ℕ → Columns

-- the columns of the first of these tables that has a name; none where no table has it
abbrev pub columns_stored : List NamedSchema → TableColumns
columns_stored [] name = []
columns_stored (t ∷ tables) name = if bytes_eq t.name name then t.schema else columns_stored tables name

-- the name that a token spells, its ASCII letters in lower case
abbrev pub spelled_name : Token → List ℕ
spelled_name t = map to_ascii_lowercase (if quoted_kind t.kind then between_quotes t.spelling else t.spelling)

-- a name, and the place at which it is given
abbrev pub PlacedName : Type 0
PlacedName = placed.PlacedName

-- the name that a token gives
abbrev pub placed_name : Token → PlacedName
placed_name t = record { name = spelled_name t; place = t.place }

-- the names alone
abbrev pub names_alone : List PlacedName → List (List ℕ)
names_alone names = map (λ (n : PlacedName). n.name) names

-- one place stands before another one
abbrev pub is_earlier : Place → Place → Bool
is_earlier a b = nat_lt a.line b.line || (a.line == b.line && nat_lt a.column b.column)

-- ---- declarations and methods

-- the names of variables that a declaration of variables gives
abbrev pub declared_names : List VariableDeclaration → List PlacedName
declared_names [] = []
declared_names (v ∷ declarations) = map placed_name v.names ++ declared_names declarations

-- the declarations of variables of a unit
abbrev pub variable_declarations : List GlobalItem → List VariableDeclaration
variable_declarations [] = []
variable_declarations (Declared (declaration.Variables v) ∷ globals) = v ∷ variable_declarations globals
variable_declarations (_ ∷ globals) = variable_declarations globals

-- the names that the statements `retain`, `keep` and `drop` of a unit list
abbrev pub listed_tokens : List GlobalItem → List Token
listed_tokens [] = []
listed_tokens (Listed keyword names end ∷ globals) = names ++ listed_tokens globals
listed_tokens (_ ∷ globals) = listed_tokens globals

-- the methods of a unit
abbrev pub source_methods : List GlobalItem → List Method
source_methods [] = []
source_methods (Defined m ∷ globals) = m ∷ source_methods globals
source_methods (_ ∷ globals) = source_methods globals

-- init, run and term
abbrev pub is_system_name : List ℕ → Bool
is_system_name name = bytes_eq name (codes "init") || bytes_eq name (codes "run") || bytes_eq name (codes "term")

-- the parameters and locals of a method
abbrev pub local_names : Method → List PlacedName
local_names m = map (λ (p : source_parameter.Parameter). placed_name p.name) m.parameters.list ++ declared_names m.locals

-- ---- units

-- the kinds of units
pub data UnitKind : Type 0 where
  OfPackage : UnitKind
  OfThread : UnitKind
  OfData : UnitKind

-- a unit of a source, of whatever kind: its name where it has one, the parameters of a thread program, the outputs of a data
-- program, and what stands in it
pub record UnitSource : Type 0 where
  pub kind : UnitKind
  pub name : Option Token
  pub parameters : List source_parameter.Parameter
  pub outputs : List source_output.OutputTable
  pub globals : List GlobalItem

-- the parameters behind the name of a thread program, where there are some
abbrev pub parameters_listed : Option Parameters → List source_parameter.Parameter
parameters_listed None = []
parameters_listed (Some parameters) = parameters.list

-- a package as a unit
abbrev pub unit_of_package : Package → UnitSource
unit_of_package u = record { kind = OfPackage; name = Some u.name; parameters = []; outputs = []; globals = u.globals }

-- a thread program as a unit
abbrev pub unit_of_thread : Thread → UnitSource
unit_of_thread u = record { kind = OfThread; name = Some u.name; parameters = parameters_listed u.parameters; outputs = []; globals = u.globals }

-- a data program as a unit
abbrev pub unit_of_data : DataProgram → UnitSource
unit_of_data u = record { kind = OfData; name = None; parameters = []; outputs = u.outputs; globals = u.globals }

-- a unit is a package
abbrev pub is_package : UnitKind → Bool
is_package OfPackage = true
is_package _ = false

-- a unit is a thread program
abbrev pub is_thread : UnitKind → Bool
is_thread OfThread = true
is_thread _ = false

-- ---- instances

-- what an instance is one of: a package, with the constants for its constructor; a hash object with its key and data variables
-- and the text of its table; an iterator with the text of its hash object; or a thread program
pub data InstanceOf : Type 0 where
  AnyPackage : (package' : Token) → (arguments : List Constant) → InstanceOf
  HashObject : (keys items : List Token) → (table : Option Token) → InstanceOf
  HashIterator : (hash : Token) → InstanceOf
  AnyThread : (thread : Token) → InstanceOf

-- an instance, declared at a word
pub record SourceInstance : Type 0 where
  pub keyword : Token
  pub name : Token
  pub sort : InstanceOf

-- the constants of an instance, where there are some
abbrev pub constants_listed : Option Constants → List Constant
constants_listed None = []
constants_listed (Some constants) = constants.list

-- the names between brackets
abbrev pub bracketed_tokens : Bracketed → List Token
bracketed_tokens b = map (λ (n : BracketedName). n.name) b.names

-- the text of a hash object's table
abbrev pub table_text : Option HashTable → Option Token
table_text None = None
table_text (Some table) = Some table.text

-- the text of a hash object's table, behind its size
abbrev pub sized_table : Option HashSize → Option Token
sized_table None = None
sized_table (Some size) = table_text size.table

-- the instances that a unit declares
abbrev pub source_instances : List GlobalItem → List SourceInstance
source_instances [] = []
source_instances (Declared (declaration.Instance keyword package_keyword package' name arguments end) ∷ globals) =
    record { keyword = keyword; name = name; sort = AnyPackage package' (constants_listed arguments) } ∷ source_instances globals
source_instances (Declared (declaration.Hash keyword package_keyword hash_keyword name opening keys comma items size closing end) ∷ globals) =
    record { keyword = keyword; name = name; sort = HashObject (bracketed_tokens keys) (bracketed_tokens items) (sized_table size) } ∷ source_instances globals
source_instances (Declared (declaration.Hiter keyword package_keyword hiter_keyword name opening hash closing end) ∷ globals) =
    record { keyword = keyword; name = name; sort = HashIterator hash } ∷ source_instances globals
source_instances (Declared (declaration.Thread keyword thread_keyword thread name end) ∷ globals) =
    record { keyword = keyword; name = name; sort = AnyThread thread } ∷ source_instances globals
source_instances (_ ∷ globals) = source_instances globals

-- the first instance of this name
abbrev pub instance_named : List SourceInstance → List ℕ → Option SourceInstance
instance_named instances name = find (λ (i : SourceInstance). bytes_eq (spelled_name i.name) name) instances

-- the name that the text constant of a table or a hash object spells
abbrev pub spelled_text : Token → List ℕ
spelled_text t = map to_ascii_lowercase (text_content t.spelling)

-- ---- units that stand before

-- a package that stands before a unit: its name, its methods, and how many tokens it has
pub record KnownPackage : Type 0 where
  pub name : List ℕ
  pub methods : List Method
  pub tokens : ℕ

-- a thread program that stands before a unit: its name, its parameters, the columns of its rows, and how many thread programs the
-- longest chain has that it is the end of
pub record KnownThread : Type 0 where
  pub name : List ℕ
  pub parameters : List (List ℕ)
  pub columns : List (List ℕ)
  pub chain : ℕ

-- a package or a thread program that stands before a unit
pub data KnownUnit : Type 0 where
  Packaged : KnownPackage → KnownUnit
  Threaded : KnownThread → KnownUnit

-- the package of this name before a unit
abbrev pub package_named : List KnownUnit → List ℕ → Option KnownPackage
package_named [] name = None
package_named (Packaged p ∷ known) name = if bytes_eq p.name name then Some p else package_named known name
package_named (Threaded t ∷ known) name = package_named known name

-- the thread program of this name before a unit
abbrev pub thread_named : List KnownUnit → List ℕ → Option KnownThread
thread_named [] name = None
thread_named (Packaged p ∷ known) name = thread_named known name
thread_named (Threaded t ∷ known) name = if bytes_eq t.name name then Some t else thread_named known name

-- the names of the units before a unit
abbrev pub known_names : List KnownUnit → List (List ℕ)
known_names [] = []
known_names (Packaged p ∷ known) = p.name ∷ known_names known
known_names (Threaded t ∷ known) = t.name ∷ known_names known

-- the thread program that an instance is one of
abbrev pub thread_of_instance : List KnownUnit → Option SourceInstance → Option KnownThread
thread_of_instance known None = None
thread_of_instance known (Some i) = of_sort i.sort
  where
    of_sort : InstanceOf → Option KnownThread
    of_sort (AnyThread thread) = thread_named known (spelled_name thread)
    of_sort _ = None

-- ---- the reading statement

-- the reading statement of `run`, where it has one
abbrev pub reading_of_run : List Method → Option source_reading.Reading
reading_of_run [] = None
reading_of_run (m ∷ methods) = if bytes_eq (spelled_name m.name) (codes "run") then m.reading else reading_of_run methods

-- a reading statement reads from a thread program
abbrev pub reads_thread : source_reading.Reading → Bool
reads_thread (reading.SetFrom keyword from instance threads end) = true
reads_thread _ = false

-- a reading statement that reads tables
abbrev pub reading_of_tables : Option source_reading.Reading → Option source_reading.Reading
reading_of_tables None = None
reading_of_tables (Some reading) = if reads_thread reading then None else Some reading

-- the reading statement that gives a unit names: any in a data program, one that reads tables in a thread program, none in a package
abbrev pub reading_by_kind : UnitKind → Option source_reading.Reading → Option source_reading.Reading
reading_by_kind OfPackage reading = None
reading_by_kind OfThread reading = reading_of_tables reading
reading_by_kind OfData reading = reading

-- the tables of a reading statement
abbrev pub tables_of_reading : Option source_reading.Reading → List source_input.Input
tables_of_reading None = []
tables_of_reading (Some (reading.Set keyword inputs end by)) = inputs
tables_of_reading (Some (reading.SetFrom keyword from instance threads end)) = []
tables_of_reading (Some (reading.Merge keyword inputs retain end by)) = inputs

-- the variables of a `by`, where there is one
abbrev pub by_list : Option By → List source_by.ByVariable
by_list None = []
by_list (Some by) = by.variables

-- the BY variables of a reading statement
abbrev pub bys_of_reading : Option source_reading.Reading → List source_by.ByVariable
bys_of_reading None = []
bys_of_reading (Some (reading.Set keyword inputs end by)) = by_list by
bys_of_reading (Some (reading.SetFrom keyword from instance threads end)) = []
bys_of_reading (Some (reading.Merge keyword inputs retain end by)) = by.variables

-- the flag of an input, where it has one
abbrev pub flag_names : List source_input.Input → List PlacedName
flag_names [] = []
flag_names (i ∷ inputs) = of_flag i.flag ++ flag_names inputs
  where
    of_flag : Option InputFlag → List PlacedName
    of_flag None = []
    of_flag (Some flag) = placed_name flag.name ∷ []

-- the columns of a table that are not known yet, at the place of the table's name
abbrev pub new_columns_of : List (List ℕ) → Place → Columns → List PlacedName
new_columns_of known place [] = []
new_columns_of known place (c ∷ columns) =
    if is_listed known c.name then new_columns_of known place columns
    else record { name = c.name; place = place } ∷ new_columns_of (c.name ∷ known) place columns

-- the columns of the tables of a reading statement that are not known yet, by table and position
abbrev pub new_columns : TableColumns → List (List ℕ) → List source_input.Input → List PlacedName
new_columns tables known [] = []
new_columns tables known (i ∷ inputs) =
    let own = new_columns_of known i.table.place (tables (spelled_name i.table)) in
    own ++ new_columns tables (names_alone own ++ known) inputs

-- the name of the instance behind `set from`
abbrev pub stage_token : Option source_reading.Reading → Option Token
stage_token None = None
stage_token (Some (reading.Set keyword inputs end by)) = None
stage_token (Some (reading.SetFrom keyword from instance threads end)) = Some instance
stage_token (Some (reading.Merge keyword inputs retain end by)) = None

-- the columns of a thread program at the place of its instance in the reading statement, where they are not known yet
abbrev pub stage_columns_at : List (List ℕ) → Place → Option KnownThread → List PlacedName
stage_columns_at known place None = []
stage_columns_at known place (Some thread) =
    map (λ name. record { name = name; place = place }) (filter (λ name. not (is_listed known name)) thread.columns)

-- ---- what a unit gives names to

-- what a unit gives names to
pub record SourceNames : Type 0 where
  pub unit : UnitSource
  -- the units before it
  pub known : List KnownUnit
  -- its declared variables, and the columns of its reading statement that are not declared
  pub declared : List PlacedName
  pub columns : List PlacedName
  -- its parameters, its `in=` flags and its BY variables
  pub parameters : List PlacedName
  pub flags : List PlacedName
  pub bys : List PlacedName
  pub instances : List SourceInstance
  pub methods : List Method
  -- the reading statement of `run` that gives it names
  pub reading : Option source_reading.Reading
  pub outputs : List source_output.OutputTable

-- the thread program that `set from` reads from, where it is known
abbrev pub stage_read : List KnownUnit → List SourceInstance → Option Token → Option KnownThread
stage_read known instances None = None
stage_read known instances (Some instance) = thread_of_instance known (instance_named instances (spelled_name instance))

-- the columns that `set from` reads and that are not known yet
abbrev pub columns_of_stage : List KnownUnit → List SourceInstance → List (List ℕ) → Option Token → List PlacedName
columns_of_stage known instances names None = []
columns_of_stage known instances names (Some instance) = stage_columns_at names instance.place (stage_read known instances (Some instance))

-- the names of a unit over tables, behind these units
abbrev pub names_of_unit : TableColumns → List KnownUnit → UnitSource → SourceNames
names_of_unit tables known u =
    let declared = declared_names (variable_declarations u.globals) in
    let instances = source_instances u.globals in
    let methods = source_methods u.globals in
    let reading = reading_by_kind u.kind (reading_of_run methods) in
    let inputs = tables_of_reading reading in
    record {
      unit = u;
      known = known;
      declared = declared;
      columns = new_columns tables (names_alone declared) inputs ++ columns_of_stage known instances (names_alone declared) (stage_token reading);
      parameters = map (λ (p : source_parameter.Parameter). placed_name p.name) u.parameters;
      flags = flag_names inputs;
      bys = map (λ (b : source_by.ByVariable). placed_name b.name) (bys_of_reading reading);
      instances = instances;
      methods = methods;
      reading = reading;
      outputs = u.outputs;
    }

-- the names of a data program over tables, behind no other unit
abbrev pub names_of_source : TableColumns → DataProgram → SourceNames
names_of_source tables u = names_of_unit tables [] (unit_of_data u)

-- the variables of a unit: declared ones, and columns
abbrev pub vector_names : SourceNames → List PlacedName
vector_names names = names.declared ++ names.columns

-- the globals of a unit that a plain name reads: its variables, parameters and `in=` flags
abbrev pub plain_globals : SourceNames → List PlacedName
plain_globals names = vector_names names ++ names.parameters ++ names.flags

-- the names of the instances of a unit
abbrev pub instance_names : SourceNames → List PlacedName
instance_names names = map (λ (i : SourceInstance). placed_name i.name) names.instances

-- all globals of a unit that have a plain name
abbrev pub all_globals : SourceNames → List PlacedName
all_globals names = plain_globals names ++ instance_names names

-- a name is among names
abbrev pub is_named : List PlacedName → List ℕ → Bool
is_named names name = is_listed (names_alone names) name
