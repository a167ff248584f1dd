-- The results of methods, from what stands of their arguments.
use Rattle.std.proofs.Common.{◌≡◌, ℕ, false, List, ◌++◌, map, Option, Some, None, Result, Ok, Err, sym, ap, ◌∙◌, subst}
use Rattle.ds2_base.specs.declared.place.Place.{Place}
use Rattle.ds2_base.specs.declared.place.Refusal.{Refusal}
use Rattle.ds2_base.specs.declared.stop.OutOfMemory.{OutOfMemory}
use Rattle.ds2_value.specs.declared.ty.Ty.{Ty}
use Rattle.ds2_meaning.specs.TypedExpression as tree
use Rattle.ds2_meaning.specs.View.{in_a_row, argument_tree}
use Rattle.ds2_meaning.specs.declared.expressions.Argument.{Argument}
use Rattle.ds2_meaning.specs.declared.refusals.TypeKind.{TypeKind}
use Rattle.ds2_meaning.specs.declared.refusals.TypeKind.TheVariants.{TypeClash}
use Rattle.ds2_elaboration.specs.ExpressionTypes.{ElaboratedArguments, result_of_method}
use Rattle.ds2_elaboration.specs.Typings.{clash_unless, form_of_operands}
use Rattle.ds2_types.specs.Judgements.{node_tree, IsOutcome, IsJudged, Judges, ruled}
use Rattle.ds2_types.specs.declared.judgement.Judgement.{Judgement}
use Rattle.ds2_types.specs.declared.judgement.Node.{Node}
use Rattle.ds2_types.specs.declared.judgement.Typing.TheVariants as known
use Rattle.ds2_types.proofs.Outcomes.{after_rule, operands_broken, type_broken, type_typed}
use Rattle.ds2_reference_types.specs.Passing.{AreAllPassed}

module _ (name : Place) (instance : Option (List ℕ)) (number : ℕ) (a : ElaboratedArguments) (arguments : Result (List Argument) (Refusal TypeKind)) (h : AreAllPassed a arguments) where
  pub result_broken : (ty : Ty) (r : Refusal TypeKind) → arguments ≡ Err r
      → IsJudged (result_of_method name instance number a (Some ty)) (record { typing = known.Known ty; outcome = Err r })
  result_broken ty r e = type_broken ty a.refusals (tree.Called instance number a.arguments ty) r (subst (AreAllPassed a) e h)

  pub result_typed : (ty : Ty) (all : List Argument) (n : Node) (own : Option (List ℕ)) → arguments ≡ Ok all → own ≡ instance
      → node_tree n ≡ tree.Called own number (in_a_row (map argument_tree all) tree.NoArgument) ty
      → IsJudged (result_of_method name instance number a (Some ty)) (record { typing = known.Known ty; outcome = Ok n })
  result_typed ty all n own e o t =
      let so = subst (AreAllPassed a) e h in
      type_typed ty a.refusals (tree.Called instance number a.arguments ty) n so.0
      (t ∙ ap (λ (i : Option (List ℕ)). tree.Called i number (in_a_row (map argument_tree all) tree.NoArgument) ty) o ∙ ap (λ (l : tree.TypedArguments). tree.Called instance number l ty) so.1)

-- what returns nothing
pub result_missing : (name : Place) (node : tree.TypedExpression) (a : ElaboratedArguments) (arguments : Result (List Argument) (Refusal TypeKind)) (clash r : Refusal TypeKind)
    → AreAllPassed a arguments → clash ≡ record { kind = TypeClash; place = name } → Err r ≡ ruled arguments (Some clash)
    → IsJudged (form_of_operands (a.refusals ++ clash_unless false name) node) (record { typing = known.Unknown; outcome = Err r })
result_missing name node a arguments clash r h c g =
    let are_so = λ (as' : List Argument). in_a_row (map argument_tree as') tree.NoArgument ≡ a.arguments in
    let one = after_rule are_so a.refusals (clash_unless false name) arguments (Some clash) h (ap (λ (q : Refusal TypeKind). Some q) c) in
    operands_broken (a.refusals ++ clash_unless false name) node r
    (subst (IsOutcome are_so (a.refusals ++ clash_unless false name)) (sym g) one)

-- a result by the type that is returned
pub result_as : (name : Place) (instance : Option (List ℕ)) (number : ℕ) (a : ElaboratedArguments) (ty other : Option Ty) (result : Result Judgement OutOfMemory) → ty ≡ other
    → Judges (result_of_method name instance number a other) result → Judges (result_of_method name instance number a ty) result
result_as name instance number a ty other result e h = subst (λ (t : Option Ty). Judges (result_of_method name instance number a t) result) (sym e) h
