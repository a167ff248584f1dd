-- Expressions and calls, once it is told what they are.
use Rattle.std.proofs.Common.{◌≡◌, ℕ, List, Option, None, Some, Result, sym, ap, ◌∙◌, subst}
use Rattle.std.specs.Prelude.{nat_eq}
use Rattle.std.specs.Cmp.Lexicographic.{pointwise}
use Rattle.std.specs.HashMap.{HashMap, get}
use Rattle.ds2_base.specs.declared.place.Refusal.{Refusal}
use Rattle.ds2_base.specs.declared.stop.OutOfMemory.{OutOfMemory}
use Rattle.ds2_value.specs.declared.ty.Ty.{Ty}
use Rattle.ds2_token.specs.declared.token.Token.{Token}
use Rattle.ds2_tree.specs.Expressions.{Expression}
use Rattle.ds2_tree.specs.ExpressionViews.{expression_tree}
use Rattle.ds2_tree.specs.declared.expressions.Expression as code
use Rattle.ds2_tree.specs.Globals.{Method}
use Rattle.ds2_tree.specs.declared.expressions.Callee.{Callee}
use Rattle.ds2_meaning.specs.declared.expressions.Argument as typed
use Rattle.ds2_meaning.specs.declared.methods.Parameter.{Parameter}
use Rattle.ds2_meaning.specs.declared.refusals.TypeKind.{TypeKind}
use Rattle.ds2_names.specs.SourceUnit.{spelled_name}
use Rattle.ds2_names.specs.Uses.{method_named}
use Rattle.ds2_elaboration.specs.SourceTypes.{elaborated_parameters}
use Rattle.ds2_elaboration.specs.FunctionTypes.{ElaboratedArgument, elaborated_function}
use Rattle.ds2_elaboration.specs.ExpressionTypes.{TypeScope, ElaboratedArguments, arguments_for, number_of_method, result_of_method, elaborated_method_call, method_or_function_call, elaborated_named_call, elaborated_instance_call, elaborated_call, elaborated}
use Rattle.ds2_elaboration.specs.Typings.{elaborated_nameless}
use Rattle.ds2_types.specs.Judgements.{IsJudged, Judges}
use Rattle.ds2_types.specs.declared.judgement.Judgement.{Judgement}
use Rattle.ds2_reference_types.specs.Passing.{AreAllPassed}
use Rattle.ds2_reference_types.specs.Scopes.{IsKnownMethod, IsMethodAs, AreKnownMethods, IsScopeOf}
use Rattle.ds2_reference_types.specs.declared.scopes.KnownMethod.{KnownMethod}
use Rattle.ds2_reference_types.specs.declared.scopes.Scope.{Scope}
use Rattle.ds2_reference_types.proofs.KnownNames.{none_not_some, some_not_none, inside}

-- what is judged of an expression that the code holds
abbrev pub IsJudgedAs : TypeScope → Judgement → code.Expression → Type 0
IsJudgedAs types j e = IsJudged (elaborated types (expression_tree e)) j

-- an expression that is this one
pub told : (types : TypeScope) (e form : Expression) (result : Result Judgement OutOfMemory) → e ≡ form → Judges (elaborated types form) result → Judges (elaborated types e) result
told types e form result h k = subst (λ (x : Expression). Judges (elaborated types x) result) (sym h) k

-- a call of what is this
pub told_call : (types : TypeScope) (xs : List ElaboratedArgument) (f form : Callee) (result : Result Judgement OutOfMemory) → f ≡ form
    → Judges (elaborated_call types form xs) result → Judges (elaborated_call types f xs) result
told_call types xs f form result h k = subst (λ (x : Callee). Judges (elaborated_call types x xs) result) (sym h) k

-- ---- methods and functions

function_if : (types : TypeScope) (own : List ℕ) (name : Token) (xs : List ElaboratedArgument) (k : Option KnownMethod) (m : Option Method) (result : Result Judgement OutOfMemory) → k ≡ None
    → IsMethodAs types.methods own k m → Judges (elaborated_function name xs) result → Judges (method_or_function_call types name xs m) result
function_if types own name xs None None result e h g = g
function_if types own name xs None (Some m) result e h g = absurd h
function_if types own name xs (Some k) m result e h g = absurd (none_not_some k e)

method_if : (types : TypeScope) (own : List ℕ) (name : Token) (xs : List ElaboratedArgument) (k : Option KnownMethod) (m : Option Method) (known : KnownMethod) (result : Result Judgement OutOfMemory)
    → k ≡ Some known → IsMethodAs types.methods own k m
    → ((m : Method) → IsKnownMethod types.methods own known m → Judges (elaborated_method_call None types.methods name m xs) result)
    → Judges (method_or_function_call types name xs m) result
method_if types own name xs None m known result e h g = absurd (some_not_none known e)
method_if types own name xs (Some k) None known result e h g = absurd h
method_if types own name xs (Some k) (Some m) known result e h g = g m (subst (λ (o : KnownMethod). IsKnownMethod types.methods own o m) (inside k known e) h)

module _ (types : TypeScope) (scope : Scope) (name : Token) (spelled : List ℕ) (found : Option KnownMethod) (xs : List ElaboratedArgument) (result : Result Judgement OutOfMemory) where
  -- a name that is no method's
  pub no_method : IsScopeOf types scope → spelled ≡ spelled_name name → found ≡ get (pointwise nat_eq) scope.methods.now spelled → found ≡ None
      → Judges (elaborated_function name xs) result → Judges (elaborated_named_call types name xs) result
  no_method s e f g h =
      function_if types (spelled_name name) name xs (get (pointwise nat_eq) scope.methods.now (spelled_name name)) (method_named types.methods (spelled_name name)) result
      (ap (λ (n : List ℕ). get (pointwise nat_eq) scope.methods.now n) (sym e) ∙ sym f ∙ g) (s.callables (spelled_name name)) h

  -- a name that is a method's
  pub a_method : (known : KnownMethod) → IsScopeOf types scope → spelled ≡ spelled_name name → found ≡ get (pointwise nat_eq) scope.methods.now spelled → found ≡ Some known
      → ((m : Method) → IsKnownMethod types.methods (spelled_name name) known m → Judges (elaborated_method_call None types.methods name m xs) result)
      → Judges (elaborated_named_call types name xs) result
  a_method known s e f g h =
      method_if types (spelled_name name) name xs (get (pointwise nat_eq) scope.methods.now (spelled_name name)) (method_named types.methods (spelled_name name)) known result
      (ap (λ (n : List ℕ). get (pointwise nat_eq) scope.methods.now n) (sym e) ∙ sym f ∙ g) (s.callables (spelled_name name)) h

-- the result of a method that is known
pub method_result : (methods : List Method) (instance : Option (List ℕ)) (name : Token) (xs : List ElaboratedArgument) (known : KnownMethod) (parameters : List Parameter)
    (passed : Result (List typed.Argument) (Refusal TypeKind)) (result : Result Judgement OutOfMemory) (m : Method) → IsKnownMethod methods (spelled_name name) known m
    → parameters ≡ known.parameters → AreAllPassed (arguments_for name.place parameters xs) passed
    → ((a : ElaboratedArguments) → AreAllPassed a passed → Judges (result_of_method name.place instance known.number a known.returns) result)
    → Judges (elaborated_method_call instance methods name m xs) result
method_result methods instance name xs known parameters passed result m k e h further =
    let a = arguments_for name.place (elaborated_parameters m) xs in
    let own = subst (λ (ps : List Parameter). AreAllPassed (arguments_for name.place ps xs) passed) (e ∙ k.parameters) h in
    subst (λ (ty : Option Ty). Judges (result_of_method name.place instance (number_of_method methods (spelled_name name)) a ty) result) k.returns
    (subst (λ (n : ℕ). Judges (result_of_method name.place instance n a known.returns) result) k.number (further a own))

-- ---- methods of instances

instance_none : (object name : Token) (sources : List Method) (xs : List ElaboratedArgument) (own : List ℕ) (k : Option KnownMethod) (m : Option Method) (j : Judgement) → k ≡ None
    → IsMethodAs sources own k m → IsJudged (elaborated_nameless object.place) j → IsJudged (elaborated_instance_call object name sources xs m) j
instance_none object name sources xs own None None j e h g = g
instance_none object name sources xs own None (Some m) j e h g = absurd h
instance_none object name sources xs own (Some k) m j e h g = absurd (none_not_some k e)

instance_some : (object name : Token) (sources : List Method) (xs : List ElaboratedArgument) (own : List ℕ) (k : Option KnownMethod) (m : Option Method) (known : KnownMethod)
    (result : Result Judgement OutOfMemory) → k ≡ Some known → IsMethodAs sources own k m
    → ((m : Method) → IsKnownMethod sources own known m → Judges (elaborated_method_call (Some (spelled_name object)) sources name m xs) result)
    → Judges (elaborated_instance_call object name sources xs m) result
instance_some object name sources xs own None m known result e h g = absurd (some_not_none known e)
instance_some object name sources xs own (Some k) None known result e h g = absurd h
instance_some object name sources xs own (Some k) (Some m) known result e h g = g m (subst (λ (o : KnownMethod). IsKnownMethod sources own o m) (inside k known e) h)

module _ {S : Type 0} (table : HashMap (List ℕ) KnownMethod S) (sources : List Method) (object name : Token) (spelled : List ℕ) (found : Option KnownMethod) (xs : List ElaboratedArgument) where
  -- a name that is no method's of an instance
  pub no_instance_method : (j : Judgement) → AreKnownMethods sources table → spelled ≡ spelled_name name → found ≡ get (pointwise nat_eq) table spelled → found ≡ None
      → IsJudged (elaborated_nameless object.place) j → IsJudged (elaborated_instance_call object name sources xs (method_named sources (spelled_name name))) j
  no_instance_method j s e f g h =
      instance_none object name sources xs (spelled_name name) (get (pointwise nat_eq) table (spelled_name name)) (method_named sources (spelled_name name)) j
      (ap (λ (n : List ℕ). get (pointwise nat_eq) table n) (sym e) ∙ sym f ∙ g) (s (spelled_name name)) h

  -- one that is
  pub an_instance_method : (known : KnownMethod) (result : Result Judgement OutOfMemory) → AreKnownMethods sources table → spelled ≡ spelled_name name
      → found ≡ get (pointwise nat_eq) table spelled → found ≡ Some known
      → ((m : Method) → IsKnownMethod sources (spelled_name name) known m → Judges (elaborated_method_call (Some (spelled_name object)) sources name m xs) result)
      → Judges (elaborated_instance_call object name sources xs (method_named sources (spelled_name name))) result
  an_instance_method known result s e f g h =
      instance_some object name sources xs (spelled_name name) (get (pointwise nat_eq) table (spelled_name name)) (method_named sources (spelled_name name)) known result
      (ap (λ (n : List ℕ). get (pointwise nat_eq) table n) (sym e) ∙ sym f ∙ g) (s (spelled_name name)) h
