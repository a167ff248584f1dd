use Rattle.std.proofs.Common.{◌≡◌, ◌++◌, [], drop}
use Rattle.ds2_tree.specs.ExpressionViews.{operands_of, arguments_of}
use Rattle.ds2_names.specs.Uses.{operand_uses, argument_uses}
use Rattle.ds2_aliases.specs.MentionParts.{flags_by_calls, mentions_in_uses}
use Rattle.ds2_aliases.proofs.expressions.+mention_expressions.Given as goal

abbrev pub invariant-push_operands-operands : goal.invariant-push_operands-operands
invariant-push_operands-operands l =
    l.found ++ mentions_in_uses (flags_by_calls l.calls) (operand_uses (flags_by_calls l.calls) (operands_of (drop l.operand-index l.operands)))
    ≡ l.fn.found ++ mentions_in_uses (flags_by_calls l.calls) (operand_uses (flags_by_calls l.calls) (operands_of l.operands))

abbrev pub invariant-push_arguments-arguments : goal.invariant-push_arguments-arguments
invariant-push_arguments-arguments l =
    l.found ++ mentions_in_uses (flags_by_calls l.calls) (argument_uses (flags_by_calls l.calls) [] (arguments_of (drop l.argument-index l.arguments)))
    ≡ l.fn.found ++ mentions_in_uses (flags_by_calls l.calls) (argument_uses (flags_by_calls l.calls) [] (arguments_of l.arguments))
