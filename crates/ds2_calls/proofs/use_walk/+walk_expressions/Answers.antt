use Rattle.std.proofs.Common.{◌+◌, drop, arith}
use Rattle.std.proofs.lemmas.Grind.{common_steps}
use Rattle.ds2_tree.specs.ExpressionViews.{expression_tree, operands_of, arguments_of}
use Rattle.ds2_names.specs.Uses.{uses, operand_uses}
use Rattle.ds2_calls.proofs.UseLemmas.{one_more_use, one_more_argument}
use Rattle.ds2_calls.proofs.use_walk.+walk_expressions.Goals as goal

pub in_operands-operands-preserved : goal.in_operands-operands-preserved
in_operands-operands-preserved g t c =
    let places = g.R.UseRule.places c.args.rule.now in
    let flags = g.R.UseRule.flags c.args.rule.now in
    let k = one_more_use places c.operands.found (uses flags (expression_tree c.operand-item.result.value)) (operand_uses flags (operands_of (drop (c.operands.operand-index + 1) c.args.operands.now))) in
    grind (arith, common_steps, k, c.operands.invariant)

pub in_arguments-arguments-preserved : goal.in_arguments-arguments-preserved
in_arguments-arguments-preserved g t c =
    let a = c.argument-item.result in
    let k = one_more_argument (g.R.UseRule.places c.args.rule.now) (g.R.UseRule.flags c.args.rule.now) c.arguments.found c.arguments.left.now a.comma (expression_tree a.value)
    (arguments_of (drop (c.arguments.argument-index + 1) c.args.arguments.now)) in
    grind (arith, common_steps, k, c.arguments.invariant)
