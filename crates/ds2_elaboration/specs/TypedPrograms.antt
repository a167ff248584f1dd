-- A unit that breaks no rule becomes a typed program or package.
use Rattle.std.specs.Prelude.{◌≡◌, ℕ, true, List, [], ◌∷◌, map, option_map, Option, Some, Ok}
use Rattle.std.specs.List.{AllByRecursion}
use Rattle.ds2_token.specs.declared.token.Token.{Token}
use Rattle.ds2_tree.specs.Globals.{Method}
use Rattle.ds2_tree.specs.Units.{SourcePart, APackage, AThread, AData, part_spelling, IsPart}
use Rattle.ds2_value.specs.Schema.{is_schema}
use Rattle.ds2_value.specs.declared.schema.Column as column
use Rattle.ds2_meaning.specs.declared.globals.OutputTable as typed_output
use Rattle.ds2_meaning.specs.declared.globals.Variable as typed
use Rattle.ds2_meaning.specs.IsTyped.{AreTypedInstances, AreTypedMethods, IsTypedBody, IsTypedInit, IsTypedProgram, IsTypedDataProgram, globals_of}
use Rattle.ds2_meaning.specs.Method.{MethodTree}
use Rattle.ds2_meaning.specs.ProgramTree.{InstanceTree, UnitTree, ProgramTree, reader_of, methods_of}
use Rattle.ds2_names.specs.SourceUnit.{TableColumns, KnownPackage, KnownThread, package_named, thread_named, is_earlier, unit_of_data, unit_of_package, unit_of_thread, spelled_name}
use Rattle.ds2_names.specs.Uses.{method_named}
use Rattle.ds2_elaboration.specs.Elaboration.{elaborated_source, elaborated_threads}
use Rattle.ds2_elaboration.specs.ElaborationLaws.{BreaksNoRule}
use Rattle.ds2_elaboration.specs.ExpressionTypes.{number_of_method}
use Rattle.ds2_elaboration.specs.ProgramTypes.{typed_unit, typed_program, typed_package}
use Rattle.ds2_elaboration.specs.TypedScopes.{MethodStands}
use Rattle.ds2_elaboration.specs.UnitsBefore.{PackageTypes, UnitsBefore, package_types, typed_thread_named, columns_of_one}

-- each of these tokens stands before all that follow
abbrev pub StandInOrder : List Token → Type 0
StandInOrder [] = Unit {0}
StandInOrder (t ∷ tokens) = AllByRecursion (λ (later : Token). is_earlier t.place later.place ≡ true) tokens × StandInOrder tokens

-- a part of a source as it stands there: it is of the grammar, and its tokens stand in order
pub record StandsInSource (part : SourcePart) : Type 0 where
  pub grammar : IsPart part
  pub order : StandInOrder (part_spelling part)

-- the columns of each table have distinct names, and their types are in bounds
abbrev pub HaveSchemas : TableColumns → Type 0
HaveSchemas tables = (table : List ℕ) → is_schema (tables table) ≡ true

-- ---- what stands before a unit

-- an instance of a package
abbrev pub instance_with : List ℕ → PackageTypes → InstanceTree
instance_with name p = record { name = name; package' = p.name; variables = p.variables; objects = p.objects; methods = p.methods }

-- a package whose instances are typed, and whose methods are those of its source, in their order
pub record PackageStands (p : PackageTypes) : Type 0 where
  pub typed : AreTypedInstances (instance_with [] p ∷ [])
  pub names : map (λ (m : MethodTree). m.name) p.methods ≡ map (λ (m : Method). spelled_name m.name) p.sources
  pub methods : (name : List ℕ) (m : Method) → method_named p.sources name ≡ Some m → MethodStands p.methods (number_of_method p.sources name) m

-- there is one output
abbrev pub IsOneOutput : List typed_output.OutputTable → Type 0
IsOneOutput [] = ⊥
IsOneOutput (output ∷ []) = Unit {0}
IsOneOutput (output ∷ (second ∷ outputs)) = ⊥

-- a typed thread program with its one output
pub record ThreadStands (p : ProgramTree) : Type 0 where
  pub typed : IsTypedProgram p
  pub output : IsOneOutput (reader_of p).outputs

-- what the rules of names know of a package: the methods of its source
abbrev pub known_methods : Option KnownPackage → Option (List Method)
known_methods p = option_map (λ (k : KnownPackage). k.methods) p

-- the names of the parameters of a thread program
abbrev pub parameter_names : UnitTree → List (List ℕ)
parameter_names p = map (λ (v : typed.Variable). v.name) p.parameters

-- the names of the columns of its rows
abbrev pub row_names : UnitTree → List (List ℕ)
row_names p = map (λ (c : column.Column). c.name) (columns_of_one p.outputs)

-- what stands before a unit is typed, and it is what the rules of names know
pub record UnitsStand (before : UnitsBefore) : Type 0 where
  pub packages : AllByRecursion PackageStands before.packages
  pub threads : AllByRecursion ThreadStands before.threads
  pub package_methods : (name : List ℕ) → known_methods (package_named before.names.known name) ≡ option_map (λ (p : PackageTypes). p.sources) (package_types before.packages name)
  pub thread_parameters : (name : List ℕ)
      → option_map (λ (t : KnownThread). t.parameters) (thread_named before.names.known name) ≡ option_map (λ (p : ProgramTree). parameter_names (reader_of p)) (typed_thread_named before.threads name)
  pub thread_columns : (name : List ℕ)
      → option_map (λ (t : KnownThread). t.columns) (thread_named before.names.known name) ≡ option_map (λ (p : ProgramTree). row_names (reader_of p)) (typed_thread_named before.threads name)

-- ---- the laws

-- the methods and the system methods of a program are typed
pub record MethodsAreTyped (p : UnitTree) : Type 0 where
  pub methods : AreTypedMethods (globals_of p) (methods_of p) p.objects p.methods
  pub init : IsTypedInit p p.init
  pub run : IsTypedBody p p.run
  pub term : IsTypedBody p p.term

-- the methods of a data or thread program that breaks no rule are typed
abbrev pub HasTypedMethods : TableColumns → UnitsBefore → SourcePart → Type 0
HasTypedMethods tables before (AThread u) = BreaksNoRule tables before (unit_of_thread u) → MethodsAreTyped (typed_unit tables before (unit_of_thread u))
HasTypedMethods tables before (AData u) = BreaksNoRule tables before (unit_of_data u) → MethodsAreTyped (typed_unit tables before (unit_of_data u))
HasTypedMethods tables before _ = Unit {0}

-- the methods of each program of a source become typed behind typed units
abbrev pub EveryMethodIsTyped : Type 0
EveryMethodIsTyped = (tables : TableColumns) (before : UnitsBefore) (part : SourcePart) → StandsInSource part → HaveSchemas tables → UnitsStand before
    → HasTypedMethods tables before part

-- what a part of a source is behind typed units, where it breaks no rule: a typed program, or a package whose instances are typed
abbrev pub BecomesTyped : TableColumns → UnitsBefore → SourcePart → Type 0
BecomesTyped tables before (APackage u) =
    BreaksNoRule tables before (unit_of_package u) → PackageStands (typed_package tables before (unit_of_package u) (spelled_name u.name))
BecomesTyped tables before (AThread u) = BreaksNoRule tables before (unit_of_thread u) → ThreadStands (typed_program tables before (unit_of_thread u))
BecomesTyped tables before (AData u) = BreaksNoRule tables before (unit_of_data u) → IsTypedDataProgram (typed_program tables before (unit_of_data u))
BecomesTyped tables before _ = Unit {0}

-- each part of a source becomes typed behind typed units
abbrev pub EveryUnitIsTyped : Type 0
EveryUnitIsTyped = (tables : TableColumns) (before : UnitsBefore) (part : SourcePart) → StandsInSource part → HaveSchemas tables → UnitsStand before
    → BecomesTyped tables before part

-- what a source becomes, where it is not refused, is typed data programs
abbrev pub EverySourceIsTyped : Type 0
EverySourceIsTyped = (tables : TableColumns) (parts : List SourcePart) (programs : List ProgramTree) → HaveSchemas tables → AllByRecursion StandsInSource parts
    → elaborated_source tables parts ≡ Ok programs → AllByRecursion IsTypedDataProgram programs

-- the thread programs of a source that is not refused are typed, whether a program reads from them or not
abbrev pub EveryThreadIsTyped : Type 0
EveryThreadIsTyped = (tables : TableColumns) (parts : List SourcePart) (programs : List ProgramTree) → HaveSchemas tables → AllByRecursion StandsInSource parts
    → elaborated_source tables parts ≡ Ok programs → AllByRecursion IsTypedProgram (elaborated_threads tables parts)
