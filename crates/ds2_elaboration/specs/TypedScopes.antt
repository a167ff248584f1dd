-- Expressions and statements become typed ones where they break no rule.
use Rattle.std.specs.Prelude.{◌≡◌, ℕ, Bool, true, IsTrue, slice_get, is_some, List, [], length, Option, Some, None}
use Rattle.std.specs.List.{AllByRecursion}
use Rattle.ds2_token.specs.declared.token.Token.{Token}
use Rattle.ds2_tree.specs.Expressions.{Expression, IsExpression}
use Rattle.ds2_tree.specs.Globals.{Method}
use Rattle.ds2_tree.specs.Statements.{Statements, AreStatements}
use Rattle.ds2_value.specs.Types.{in_bounds}
use Rattle.ds2_value.specs.declared.ty.Ty.{Ty}
use Rattle.ds2_value.specs.declared.ty.Ty.TheVariants.{BigInt}
use Rattle.ds2_meaning.specs.declared.location.Global.TheVariants.{Named, First, Last, Present, Parameter as ThreadParameter}
use Rattle.ds2_meaning.specs.declared.methods.Parameter.{Parameter}
use Rattle.ds2_meaning.specs.declared.globals.Variable as typed
use Rattle.ds2_meaning.specs.HashObjects.{hash_named, iterator_named}
use Rattle.ds2_meaning.specs.IsTyped.{NamesInScope, type_in, thread_parameters, AreTypedStatements}
use Rattle.ds2_meaning.specs.Method.{MethodTree}
use Rattle.ds2_meaning.specs.ProgramTree.{is_listed}
use Rattle.ds2_names.specs.UnitRules.{misplaced_in_all}
use Rattle.ds2_names.specs.Uses.{method_named}
use Rattle.ds2_elaboration.specs.ExpressionTypes.{TypeScope, ObjectCalls, InstanceCalls, HashCalls, IteratorCalls, ParameterCalls, object_in_scope, number_of_method, elaborated}
use Rattle.ds2_elaboration.specs.SourceTypes.{elaborated_parameters, returned_type}
use Rattle.ds2_elaboration.specs.StatementTypes.{statements_refusals, statements_node}
use Rattle.ds2_elaboration.specs.TypedForms.{IsSoundlyElaborated}

-- ---- what a method sees, and what its typed statements may name

-- a type that is there is in bounds
abbrev pub IsBoundedIfAny : Option Ty → Type 0
IsBoundedIfAny None = Unit {0}
IsBoundedIfAny (Some ty) = in_bounds ty ≡ true

-- one of these methods can be called by its number: it has the parameters and the result that its source declares, of types in bounds
pub record MethodStands (methods : List MethodTree) (number : ℕ) (m : Method) : Type 0 where
  pub method : MethodTree
  pub there : slice_get methods number ≡ Some method
  pub parameters : method.parameters ≡ elaborated_parameters m
  pub returns : method.returns ≡ returned_type m.returns
  pub parameter_bounds : AllByRecursion (λ (p : Parameter). in_bounds p.ty ≡ true) (elaborated_parameters m)
  pub result_bounds : IsBoundedIfAny (returned_type m.returns)

-- what can be called on an object of this name is there
abbrev pub ObjectStands : NamesInScope → List ℕ → ObjectCalls → Type 0
ObjectStands names name (InstanceCalls methods) = (method : List ℕ) (m : Method) → method_named methods method ≡ Some m
    → MethodStands (names.methods (Some name)) (number_of_method methods method) m
ObjectStands names name HashCalls = IsTrue (is_some (hash_named names.objects.hashes name))
ObjectStands names name IteratorCalls = IsTrue (is_some (iterator_named names.objects.iterators name))
ObjectStands names name (ParameterCalls parameters) =
    (thread_parameters names.threads name ≡ Some parameters) × AllByRecursion (λ (v : typed.Variable). in_bounds v.ty ≡ true) parameters

-- what the source of a method sees is what its typed statements may name, of types in bounds
pub record ScopeStands (scope : TypeScope) (names : NamesInScope) : Type 0 where
  pub locals : (name : List ℕ) (ty : Ty) → type_in scope.locals name ≡ Some ty → (type_in names.locals name ≡ Some ty) × (in_bounds ty ≡ true)
  pub variables : (name : List ℕ) (ty : Ty) → type_in scope.variables name ≡ Some ty → (names.globals (Named name) ≡ Some ty) × (in_bounds ty ≡ true)
  pub parameters : (name : List ℕ) (ty : Ty) → type_in scope.parameters name ≡ Some ty → (names.globals (ThreadParameter name) ≡ Some ty) × (in_bounds ty ≡ true)
  pub objects : (name : List ℕ) (calls : ObjectCalls) → object_in_scope scope name ≡ Some calls → ObjectStands names name calls
  pub flags : (name : List ℕ) → is_listed scope.flags name ≡ true → names.globals (Present name) ≡ Some BigInt
  pub firsts : (name : List ℕ) → is_listed scope.bys name ≡ true → names.globals (First name) ≡ Some BigInt
  pub lasts : (name : List ℕ) → is_listed scope.bys name ≡ true → names.globals (Last name) ≡ Some BigInt
  pub methods : (name : List ℕ) (m : Method) → method_named scope.methods name ≡ Some m → MethodStands (names.methods None) (number_of_method scope.methods name) m
  pub outputs : names.is_system ≡ true → length scope.outputs ≡ names.outputs
  pub returns : names.returns ≡ scope.returns
  pub return_bounds : IsBoundedIfAny scope.returns

-- ---- the laws

-- every expression of the grammar becomes a typed one, of the type that is known of it, where it breaks no rule of types
abbrev pub ExpressionsAreTyped : Type 0
ExpressionsAreTyped = (scope : TypeScope) (names : NamesInScope) → ScopeStands scope names → (e : Expression) → IsExpression e
    → IsSoundlyElaborated names (elaborated scope e)

-- statements of the grammar, inside a loop or not, become typed ones where they break no rule of types and stand where they may: an
-- `output` statement only where one may be written to the tables that it names
abbrev pub StatementsAreTyped : Type 0
StatementsAreTyped = (scope : TypeScope) (names : NamesInScope) → ScopeStands scope names → (may_output : List Token → Bool)
    → ((tables : List Token) → may_output tables ≡ true → names.is_system ≡ true) → (loop : Bool) (body : Statements) → AreStatements body
    → misplaced_in_all may_output (is_some scope.returns) loop body ≡ [] → statements_refusals scope body ≡ []
    → AreTypedStatements names loop (statements_node scope body)
