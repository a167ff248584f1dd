use Rattle.std.proofs.Common.{◌≡◌, ◌++◌, drop}
use Rattle.ds2_tree.specs.Expressions.{operands_spelling, arguments_spelling}
use Rattle.ds2_tree.specs.ExpressionViews.{operands_of, arguments_of}
use Rattle.ds2_spelling.proofs.expressions.+spell.Given as goal

abbrev pub invariant-spell_arguments-loop-argument : goal.invariant-spell_arguments-loop-argument
invariant-spell_arguments-loop-argument l = l.out ++ arguments_spelling (arguments_of (drop l.argument-index l.arguments)) ≡ l.fn.out ++ arguments_spelling (arguments_of l.arguments)

abbrev pub invariant-spell_operands-loop-operand : goal.invariant-spell_operands-loop-operand
invariant-spell_operands-loop-operand l = l.out ++ operands_spelling (operands_of (drop l.operand-index l.operands)) ≡ l.fn.out ++ operands_spelling (operands_of l.operands)
