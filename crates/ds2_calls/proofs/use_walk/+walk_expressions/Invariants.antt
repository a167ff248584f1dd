use Rattle.std.proofs.Common.{◌≡◌, drop}
use Rattle.ds2_tree.specs.ExpressionViews.{operands_of, arguments_of}
use Rattle.ds2_names.specs.Uses.{operand_uses, argument_uses}
use Rattle.ds2_scope.specs.Earliest.{earlier_of}
use Rattle.ds2_calls.specs.UseParts.{earliest_use}
use Rattle.ds2_calls.proofs.use_walk.+walk_expressions.Given as goal

abbrev pub invariant-in_operands-operands : goal.invariant-in_operands-operands
invariant-in_operands-operands g l =
    earlier_of l.found (earliest_use (g.R.UseRule.places l.rule) (operand_uses (g.R.UseRule.flags l.rule) (operands_of (drop l.operand-index l.operands))))
    ≡ earliest_use (g.R.UseRule.places l.rule) (operand_uses (g.R.UseRule.flags l.rule) (operands_of l.operands))

abbrev pub invariant-in_arguments-arguments : goal.invariant-in_arguments-arguments
invariant-in_arguments-arguments g l =
    earlier_of l.found (earliest_use (g.R.UseRule.places l.rule) (argument_uses (g.R.UseRule.flags l.rule) l.left (arguments_of (drop l.argument-index l.arguments))))
    ≡ earliest_use (g.R.UseRule.places l.rule) (argument_uses (g.R.UseRule.flags l.rule) l.flags (arguments_of l.arguments))
