use Rattle.std.proofs.Common.{◌≡◌, true, [], drop}
use Rattle.ds2_base.specs.declared.place.Place.{Place}
use Rattle.ds2_value.specs.declared.ty.Ty.TheVariants.{BigInt}
use Rattle.ds2_meaning.specs.IsTyped.{expression_type}
use Rattle.ds2_elaboration.specs.Typings.{ElaboratedExpression, truth_refusals}
use Rattle.ds2_types.specs.Judgements.{IsOutcome}
use Rattle.ds2_expression_types.specs.Growth.{IsGrownChain, IsGrowth}
use Rattle.ds2_tree.specs.ExpressionViews.{operands_of, arguments_of}
use Rattle.ds2_elaboration.specs.ExpressionTypes.{TypeScope, is_truth_chain, elaborated_arguments, arguments_for}
use Rattle.ds2_reference_types.specs.Scopes.{IsScopeOf}
use Rattle.ds2_expression_walk.proofs.ChainWalk.{HasGrown, HasGrownTruth}
use Rattle.ds2_reference_types.proofs.ArgumentWalk.{HasJudged, HasPassed}
use Rattle.ds2_expression_walk.proofs.walk.+judge.Given as goal

abbrev pub invariant-value_chain-operands : goal.invariant-value_chain-operands
invariant-value_chain-operands l =
    (types : TypeScope) (e : ElaboratedExpression) → IsScopeOf types l.scope → IsGrowth e.node [] (expression_type e.node) e.refusals e.typing l.fn.begun
    → HasGrown types l.kind e (operands_of l.rest) (operands_of (drop l.operand-index l.rest)) l.growth

abbrev pub invariant-truth_chain-operands : goal.invariant-truth_chain-operands
invariant-truth_chain-operands l =
    (types : TypeScope) (e : ElaboratedExpression) (place : Place) → IsScopeOf types l.scope → is_truth_chain l.kind ≡ true
    → IsOutcome (IsGrownChain e.node [] BigInt) (truth_refusals place e) l.fn.begun
    → HasGrownTruth types l.kind place e (operands_of l.rest) (operands_of (drop l.operand-index l.rest)) l.grown

abbrev pub invariant-judged_arguments-arguments : goal.invariant-judged_arguments-arguments
invariant-judged_arguments-arguments l =
    (types : TypeScope) → IsScopeOf types l.scope
    → HasJudged (elaborated_arguments types (arguments_of l.arguments)) (elaborated_arguments types (arguments_of (drop l.argument-index l.arguments))) l.judged

abbrev pub invariant-passed_arguments-arguments : goal.invariant-passed_arguments-arguments
invariant-passed_arguments-arguments l =
    (types : TypeScope) → IsScopeOf types l.scope
    → HasPassed l.name (arguments_for l.name l.parameters (elaborated_arguments types (arguments_of l.arguments))) l.left
    (elaborated_arguments types (arguments_of (drop l.argument-index l.arguments))) l.so_far
