-- Arguments of calls, as the code holds them.
use Rattle.ds2_tree.specs.declared.expressions.Argument.{Argument}
use Rattle.ds2_tree.specs.ExpressionViews.{expression_tree}
use Rattle.ds2_names.specs.Uses.{first_place}
use Rattle.ds2_elaboration.specs.ExpressionTypes.{TypeScope, elaborated}
use Rattle.ds2_elaboration.specs.FunctionTypes.{ElaboratedArgument}

-- what becomes of an argument
abbrev pub argument_in : TypeScope → Argument → ElaboratedArgument
argument_in types a = record { place = first_place (expression_tree a.value); value = elaborated types (expression_tree a.value) }
