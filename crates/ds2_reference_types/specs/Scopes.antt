-- What the names of a method stand for, as the code looks them up.
use Rattle.std.specs.Prelude.{◌≡◌, ℕ, nat_eq, false, if◌then◌else◌, List, map, Option, Some, None}
use Rattle.std.specs.Cmp.Lexicographic.{pointwise}
use Rattle.std.specs.HashMap.{HashMap, get}
use Rattle.ds2_tree.specs.Globals.{Method}
use Rattle.ds2_meaning.specs.ProgramTree.{is_listed}
use Rattle.ds2_meaning.specs.declared.globals.Variable.{Variable}
use Rattle.ds2_meaning.specs.declared.location.Global.TheVariants.{Named, Present, Parameter as ThreadParameter}
use Rattle.ds2_meaning.specs.declared.location.Reference.{Reference}
use Rattle.ds2_meaning.specs.declared.location.Reference.TheVariants as reference
use Rattle.ds2_meaning.specs.declared.methods.Parameter.{Parameter}
use Rattle.ds2_names.specs.Uses.{method_named}
use Rattle.ds2_elaboration.specs.SourceTypes.{elaborated_parameters, returned_type}
use Rattle.ds2_elaboration.specs.ExpressionTypes.{TypeScope, KnownVariable, known_variable, number_of_method, ObjectCalls, InstanceCalls, HashCalls, IteratorCalls, ParameterCalls, object_in_scope}
use Rattle.ds2_types.specs.Judgements.{first_type_refusal}
use Rattle.ds2_reference_types.specs.declared.scopes.KnownCalls.{KnownCalls}
use Rattle.ds2_reference_types.specs.declared.scopes.KnownCalls.TheVariants as known
use Rattle.ds2_reference_types.specs.declared.scopes.KnownMethod.{KnownMethod}
use Rattle.ds2_reference_types.specs.declared.scopes.KnownName.{KnownName}
use Rattle.ds2_reference_types.specs.declared.scopes.KnownObject.{KnownObject}
use Rattle.ds2_reference_types.specs.declared.scopes.Scope.{Scope}
use Rattle.ds2_reference_types.specs.declared.scopes.Standing.{Standing}
use Rattle.ds2_reference_types.specs.declared.scopes.Standing.TheVariants as standing

-- ---- variables

-- how a method names a variable of this kind
abbrev pub reference_of : Standing → List ℕ → Reference
reference_of standing.Local name = reference.Local name
reference_of standing.Variable name = reference.At (Named name)
reference_of standing.Parameter name = reference.At (ThreadParameter name)
reference_of standing.Flag name = reference.At (Present name)

-- the first of two that is there
abbrev pub known_or : Option KnownName → Option KnownName → Option KnownName
known_or None other = other
known_or (Some k) other = Some k

-- what a name stands for: a parameter or local, else a variable of the unit
abbrev pub known_in : Scope → List ℕ → Option KnownName
known_in scope name = known_or (get (pointwise nat_eq) scope.locals.now name) (get (pointwise nat_eq) scope.globals.now name)

-- what the code knows of a variable
pub record IsKnownVariable (k : KnownName) (v : KnownVariable) : Type 0 where
  pub reference : reference_of k.standing k.name ≡ v.reference
  pub ty : k.ty ≡ v.ty
  pub refusal : k.refusal ≡ first_type_refusal v.refusals

-- both are there, or neither
abbrev pub IsKnownAs : Option KnownName → Option KnownVariable → Type 0
IsKnownAs None None = Unit {0}
IsKnownAs (Some k) (Some v) = IsKnownVariable k v
IsKnownAs _ _ = ⊥

-- a name, where it is that of a BY variable
abbrev pub if_by_name : TypeScope → List ℕ → Option (List ℕ)
if_by_name types name = if is_listed types.bys name then Some name else None

-- ---- methods

-- what the code knows of the one of these methods that a name stands for
pub record IsKnownMethod (methods : List Method) (name : List ℕ) (k : KnownMethod) (m : Method) : Type 0 where
  pub number : k.number ≡ number_of_method methods name
  pub parameters : k.parameters ≡ elaborated_parameters m
  pub returns : k.returns ≡ returned_type m.returns

-- both are there, or neither
abbrev pub IsMethodAs : List Method → List ℕ → Option KnownMethod → Option Method → Type 0
IsMethodAs methods name None None = Unit {0}
IsMethodAs methods name (Some k) (Some m) = IsKnownMethod methods name k m
IsMethodAs methods name _ _ = ⊥

-- a table tells of each name the first of these methods that has it
abbrev pub AreKnownMethods : {S : Type 0} → List Method → HashMap (List ℕ) KnownMethod S → Type 0
AreKnownMethods methods table = (name : List ℕ) → IsMethodAs methods name (get (pointwise nat_eq) table name) (method_named methods name)

-- ---- objects

-- an object that no parameter or local hides
abbrev pub object_unless : Option KnownName → Option KnownObject → Option KnownObject
object_unless None object = object
object_unless (Some k) object = None

-- the object that a name stands for
abbrev pub object_in : Scope → List ℕ → Option KnownObject
object_in scope name = object_unless (get (pointwise nat_eq) scope.locals.now name) (get (pointwise nat_eq) scope.objects.now name)

-- a parameter of a thread program as one that is given a value
abbrev pub value_parameter : Variable → Parameter
value_parameter v = record { name = v.name; ty = v.ty; is_in_out = false }

-- an instance of a package with these methods
pub record IsInstance {S : Type 0} (table : HashMap (List ℕ) KnownMethod S) (calls : ObjectCalls) : Type 0 where
  pub sources : List Method
  pub same : calls ≡ InstanceCalls sources
  pub methods : AreKnownMethods sources table

-- an instance of a thread program with these parameters
pub record IsThreadObject (own : List Parameter) (calls : ObjectCalls) : Type 0 where
  pub variables : List Variable
  pub same : calls ≡ ParameterCalls variables
  pub parameters : own ≡ map value_parameter variables

-- what the code knows of what can be called
abbrev pub AreKnownCalls : KnownCalls → ObjectCalls → Type 0
AreKnownCalls (known.Methods table) calls = IsInstance table calls
AreKnownCalls known.Hash calls = calls ≡ HashCalls
AreKnownCalls known.Iterator calls = calls ≡ IteratorCalls
AreKnownCalls (known.Parameters parameters) calls = IsThreadObject parameters calls

-- what the code knows of the object of a name
pub record IsKnownObject (own : List ℕ) (k : KnownObject) (object : ObjectCalls) : Type 0 where
  pub name : k.name ≡ own
  pub calls : AreKnownCalls k.calls object

-- both are there, or neither
abbrev pub IsObjectAs : List ℕ → Option KnownObject → Option ObjectCalls → Type 0
IsObjectAs name None None = Unit {0}
IsObjectAs name (Some k) (Some calls) = IsKnownObject name k calls
IsObjectAs name _ _ = ⊥

-- ---- all of them

-- the code looks up what the statements of a method see
pub record IsScopeOf (types : TypeScope) (scope : Scope) : Type 0 where
  pub variables : (name : List ℕ) → IsKnownAs (known_in scope name) (known_variable types name)
  pub flags : (name : List ℕ) → get (pointwise nat_eq) scope.bys.now name ≡ if_by_name types name
  pub callables : AreKnownMethods types.methods scope.methods.now
  pub objects : (name : List ℕ) → IsObjectAs name (object_in scope name) (object_in_scope types name)
