-- Calls on instances as statements, once it is told what they call.
use Rattle.std.proofs.Common.{◌≡◌, ℕ, List, Option, Some, None, Result, sym, ap, ◌∙◌, subst}
use Rattle.std.specs.Prelude.{nat_eq}
use Rattle.std.specs.Cmp.Lexicographic.{pointwise}
use Rattle.std.specs.HashMap.{HashMap, get}
use Rattle.ds2_base.specs.declared.place.Refusal.{Refusal}
use Rattle.ds2_token.specs.declared.token.Token.{Token}
use Rattle.ds2_tree.specs.Globals.{Method}
use Rattle.ds2_meaning.specs.TypedStatement as t
use Rattle.ds2_meaning.specs.declared.expressions.Argument.{Argument}
use Rattle.ds2_meaning.specs.declared.methods.Parameter.{Parameter}
use Rattle.ds2_meaning.specs.declared.refusals.TypeKind.{TypeKind}
use Rattle.ds2_names.specs.SourceUnit.{spelled_name}
use Rattle.ds2_names.specs.Uses.{method_named}
use Rattle.ds2_elaboration.specs.ExpressionTypes.{TypeScope, ElaboratedArguments, arguments_for}
use Rattle.ds2_elaboration.specs.FunctionTypes.{ElaboratedArgument}
use Rattle.ds2_elaboration.specs.SourceTypes.{elaborated_parameters}
use Rattle.ds2_elaboration.specs.StatementTypes.{instance_call_refusals, instance_call_node}
use Rattle.ds2_elaboration.specs.Typings.{elaborated_nameless}
use Rattle.ds2_reference_types.specs.Passing.{AreAllPassed}
use Rattle.ds2_reference_types.specs.Scopes.{AreKnownMethods}
use Rattle.ds2_reference_types.specs.declared.scopes.KnownMethod.{KnownMethod}
use Rattle.ds2_simple_statement_types.specs.StatementOutcomes.{StandsAs}
use Rattle.ds2_simple_statement_types.proofs.CallForms.{MethodThere, no_method_there, method_there}
use Rattle.ds2_simple_statement_types.proofs.PartOutcomes.{stands_as, Results}

module _ {S : Type 0} (types : TypeScope) (table : HashMap (List ℕ) KnownMethod S) (sources : List Method) (object name : Token) (spelled : List ℕ) (found : Option KnownMethod)
    (xs : List ElaboratedArgument) (result : Results) where
  abbrev named : Option Method
  named = method_named sources (spelled_name name)

  -- a name that is no method's of the instance
  pub no_method_called : AreKnownMethods sources table → spelled ≡ spelled_name name → found ≡ get (pointwise nat_eq) table spelled → found ≡ None
      → StandsAs (elaborated_nameless object.place).refusals (t.Evaluate object.place (elaborated_nameless object.place).node) result
      → StandsAs (instance_call_refusals types object name sources xs named) (instance_call_node types object.place object name sources xs named) result
  no_method_called s e f g h =
      let none : named ≡ None =
      no_method_there sources (spelled_name name) (get (pointwise nat_eq) table (spelled_name name)) named (ap (λ (n : List ℕ). get (pointwise nat_eq) table n) (sym e) ∙ sym f ∙ g)
      (s (spelled_name name)) in
      stands_as _ _ _ _ result (ap (instance_call_refusals types object name sources xs) none) (ap (instance_call_node types object.place object name sources xs) none) h

  -- a name that is one's
  pub instance_called : (known : KnownMethod) (parameters : List Parameter) (passed : Result (List Argument) (Refusal TypeKind)) (instance : List ℕ) → AreKnownMethods sources table
      → instance ≡ spelled_name object → spelled ≡ spelled_name name → found ≡ get (pointwise nat_eq) table spelled → found ≡ Some known → parameters ≡ known.parameters
      → AreAllPassed (arguments_for name.place parameters xs) passed
      → ((a : ElaboratedArguments) → AreAllPassed a passed → StandsAs a.refusals (t.Invoke object.place (Some instance) known.number a.arguments) result)
      → StandsAs (instance_call_refusals types object name sources xs named) (instance_call_node types object.place object name sources xs named) result
  instance_called known parameters passed instance s k e f g p h further =
      let m =
      method_there sources (spelled_name name) (get (pointwise nat_eq) table (spelled_name name)) named known
      (ap (λ (n : List ℕ). get (pointwise nat_eq) table n) (sym e) ∙ sym f ∙ g) (s (spelled_name name)) in
      let a = arguments_for name.place (elaborated_parameters (MethodThere.method m)) xs in
      let given = subst (λ (ps : List Parameter). AreAllPassed (arguments_for name.place ps xs) passed) (p ∙ (MethodThere.is_known m).parameters) h in
      stands_as _ _ _ _ result (ap (instance_call_refusals types object name sources xs) (MethodThere.there m))
      (ap (instance_call_node types object.place object name sources xs) (MethodThere.there m)
      ∙ ap (λ (n : ℕ). t.Invoke object.place (Some (spelled_name object)) n a.arguments) (sym (MethodThere.is_known m).number)
      ∙ ap (λ (i : List ℕ). t.Invoke object.place (Some i) known.number a.arguments) (sym k)) (further a given)
