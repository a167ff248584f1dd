use Rattle.std.proofs.Common.{◌++◌, List}
use Rattle.ds2_meaning.specs.TypedExpression.{TypedExpression}
use Rattle.ds2_elaboration.specs.FunctionTypes.{ElaboratedArgument}
use Rattle.ds2_elaboration.specs.Typings.{TypeRefusals}
use Rattle.ds2_expression_types.specs.Arguments.{AreJudged, AreValues}
use Rattle.ds2_expression_types.proofs.ArgumentLists.{rules_of, values_of}
use Rattle.ds2_expression_types.proofs.arguments.values.Given as goal

abbrev pub invariant-arguments : goal.invariant-arguments
invariant-arguments l =
    (refusals : TypeRefusals) (nodes : List TypedExpression) (xs : List ElaboratedArgument) → AreValues refusals nodes l.fn.before → AreJudged xs l.yielded
    → AreValues (refusals ++ rules_of l.rule xs) (nodes ++ values_of l.ty xs) l.all
