-- Calls as statements, once it is told what they call.
use Rattle.std.proofs.Common.{◌≡◌, ℕ, List, Option, Some, None, Result, refl, sym, ap, ◌∙◌, subst}
use Rattle.std.specs.Prelude.{nat_eq}
use Rattle.std.specs.Cmp.Lexicographic.{pointwise}
use Rattle.std.specs.HashMap.{get}
use Rattle.ds2_base.specs.declared.place.Place.{Place}
use Rattle.ds2_base.specs.declared.place.Refusal.{Refusal}
use Rattle.ds2_token.specs.declared.token.Token.{Token}
use Rattle.ds2_tree.specs.Globals.{Method}
use Rattle.ds2_tree.specs.declared.expressions.Callee.{Callee}
use Rattle.ds2_tree.specs.declared.expressions.Callee.TheVariants as callee
use Rattle.ds2_meaning.specs.TypedStatement as t
use Rattle.ds2_meaning.specs.declared.expressions.Argument.{Argument}
use Rattle.ds2_meaning.specs.declared.methods.Parameter.{Parameter}
use Rattle.ds2_meaning.specs.declared.refusals.TypeKind.{TypeKind}
use Rattle.ds2_names.specs.SourceUnit.{spelled_name}
use Rattle.ds2_names.specs.Uses.{method_named, callee_place}
use Rattle.ds2_elaboration.specs.ExpressionTypes.{TypeScope, ElaboratedArguments, number_of_method, arguments_for, method_or_function_call, elaborated_call}
use Rattle.ds2_elaboration.specs.FunctionTypes.{ElaboratedArgument, elaborated_function}
use Rattle.ds2_elaboration.specs.SourceTypes.{elaborated_parameters}
use Rattle.ds2_elaboration.specs.StatementTypes.{named_call_refusals, call_refusals, named_call_node, call_node}
use Rattle.ds2_reference_types.specs.Passing.{AreAllPassed}
use Rattle.ds2_reference_types.specs.Scopes.{IsKnownMethod, IsMethodAs, IsScopeOf}
use Rattle.ds2_reference_types.specs.declared.scopes.KnownMethod.{KnownMethod}
use Rattle.ds2_reference_types.specs.declared.scopes.Scope.{Scope}
use Rattle.ds2_reference_types.proofs.KnownNames.{none_not_some, some_not_none, inside}
use Rattle.ds2_simple_statement_types.specs.StatementOutcomes.{StandsAs}
use Rattle.ds2_simple_statement_types.proofs.PartOutcomes.{stands_as, Results}

-- a call of what is this
pub told_call : (types : TypeScope) (xs : List ElaboratedArgument) (f form : Callee) (result : Results) → f ≡ form
    → StandsAs (call_refusals types form xs) (call_node types (callee_place form) form xs) result → StandsAs (call_refusals types f xs) (call_node types (callee_place f) f xs) result
told_call types xs f form result e h =
    subst (λ (g : Callee). StandsAs (call_refusals types g xs) (call_node types (callee_place g) g xs) result) (sym e) h

-- a method that is there
pub record MethodThere (methods : List Method) (own : List ℕ) (known : KnownMethod) (m : Option Method) : Type 0 where
  pub method : Method
  pub there : m ≡ Some method
  pub is_known : IsKnownMethod methods own known method

pub no_method_there : (methods : List Method) (own : List ℕ) (k : Option KnownMethod) (m : Option Method) → k ≡ None → IsMethodAs methods own k m → m ≡ None
no_method_there methods own None None e h = refl
no_method_there methods own None (Some m) e h = absurd h
no_method_there methods own (Some k) m e h = absurd (none_not_some k e)

pub method_there : (methods : List Method) (own : List ℕ) (k : Option KnownMethod) (m : Option Method) (known : KnownMethod) → k ≡ Some known → IsMethodAs methods own k m
    → MethodThere methods own known m
method_there methods own None m known e h = absurd (some_not_none known e)
method_there methods own (Some k) None known e h = absurd h
method_there methods own (Some k) (Some m) known e h =
    record { method = m; there = refl; is_known = subst (λ (o : KnownMethod). IsKnownMethod methods own o m) (inside k known e) h }

module _ (types : TypeScope) (scope : Scope) (name : Token) (spelled : List ℕ) (found : Option KnownMethod) (xs : List ElaboratedArgument) (result : Results) where
  abbrev own : List ℕ
  own = spelled_name name

  abbrev own_method : Option Method
  own_method = method_named types.methods own

  -- a name that is no method's
  pub function_called : IsScopeOf types scope → spelled ≡ spelled_name name → found ≡ get (pointwise nat_eq) scope.methods.now spelled → found ≡ None
      → StandsAs (elaborated_function name xs).refusals (t.Evaluate name.place (elaborated_function name xs).node) result
      → StandsAs (call_refusals types (callee.Function name) xs) (call_node types name.place (callee.Function name) xs) result
  function_called s e f g h =
      let none : own_method ≡ None =
      no_method_there types.methods own (get (pointwise nat_eq) scope.methods.now own) own_method (ap (λ (n : List ℕ). get (pointwise nat_eq) scope.methods.now n) (sym e) ∙ sym f ∙ g) (s.callables own) in
      stands_as _ _ _ _ result
      (ap (named_call_refusals types name xs) none ∙ ap (λ (m : Option Method). (method_or_function_call types name xs m).refusals) none)
      (ap (named_call_node types name.place name xs) none ∙ ap (λ (m : Option Method). t.Evaluate name.place (method_or_function_call types name xs m).node) none) h

  -- a name that is a method's
  pub method_called : (known : KnownMethod) (parameters : List Parameter) (passed : Result (List Argument) (Refusal TypeKind)) → IsScopeOf types scope
      → spelled ≡ spelled_name name → found ≡ get (pointwise nat_eq) scope.methods.now spelled → found ≡ Some known → parameters ≡ known.parameters
      → AreAllPassed (arguments_for name.place parameters xs) passed
      → ((a : ElaboratedArguments) → AreAllPassed a passed → StandsAs a.refusals (t.Invoke name.place None known.number a.arguments) result)
      → StandsAs (call_refusals types (callee.Function name) xs) (call_node types name.place (callee.Function name) xs) result
  method_called known parameters passed s e f g p h further =
      let m =
      method_there types.methods own (get (pointwise nat_eq) scope.methods.now own) own_method known
      (ap (λ (n : List ℕ). get (pointwise nat_eq) scope.methods.now n) (sym e) ∙ sym f ∙ g) (s.callables own) in
      let a = arguments_for name.place (elaborated_parameters m.method) xs in
      let given = subst (λ (ps : List Parameter). AreAllPassed (arguments_for name.place ps xs) passed) (p ∙ m.is_known.parameters) h in
      stands_as _ _ _ _ result (ap (named_call_refusals types name xs) m.there)
      (ap (named_call_node types name.place name xs) m.there ∙ ap (λ (n : ℕ). t.Invoke name.place None n a.arguments) (sym m.is_known.number)) (further a given)
