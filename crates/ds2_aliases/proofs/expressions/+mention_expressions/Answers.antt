use Rattle.std.proofs.Common.{◌+◌, [], drop, arith}
use Rattle.std.proofs.lemmas.Grind.{common_steps}
use Rattle.ds2_tree.specs.ExpressionViews.{expression_tree, operands_of, arguments_of}
use Rattle.ds2_names.specs.Uses.{uses, operand_uses, argument_uses}
use Rattle.ds2_aliases.specs.MentionParts.{flags_by_calls}
use Rattle.ds2_aliases.proofs.MentionLemmas.{both_mention, any_arguments, mentions_of_call, mentions_of_chain}
use Rattle.ds2_aliases.proofs.expressions.+mention_expressions.Goals as goal

pub push_expression-returns-in-Call : goal.push_expression-returns-in-Call
push_expression-returns-in-Call t c =
    let h = mentions_of_call (flags_by_calls c.args.calls.now) _ _ _ _ _ c.in-Call.is in grind (arith, common_steps, h)

pub push_expression-returns-in_ok-push_expression-in-Chain : goal.push_expression-returns-in_ok-push_expression-in-Chain
push_expression-returns-in_ok-push_expression-in-Chain t c =
    let h = mentions_of_chain (flags_by_calls c.args.calls.now) _ _ _ _ c.in-Chain.is in grind (arith, common_steps, h)

pub push_call-returns : goal.push_call-returns
push_call-returns t c =
    let flags = flags_by_calls c.args.calls.now in
    let h = any_arguments flags (flags c.args.callee.now) (arguments_of c.args.arguments.now) in grind (arith, common_steps, h)

pub push_operands-operands-preserved : goal.push_operands-operands-preserved
push_operands-operands-preserved t c =
    let flags = flags_by_calls c.args.calls.now in
    let h = both_mention flags (uses flags (expression_tree c.operand-item.result.value)) (operand_uses flags (operands_of (drop (c.operands.operand-index + 1) c.args.operands.now))) in
    grind (arith, common_steps, h, c.operands.invariant)

pub push_arguments-arguments-preserved : goal.push_arguments-arguments-preserved
push_arguments-arguments-preserved t c =
    let flags = flags_by_calls c.args.calls.now in
    let h = both_mention flags (uses flags (expression_tree c.argument-item.result.value)) (argument_uses flags [] (arguments_of (drop (c.arguments.argument-index + 1) c.args.arguments.now))) in
    grind (arith, common_steps, h, c.arguments.invariant)
