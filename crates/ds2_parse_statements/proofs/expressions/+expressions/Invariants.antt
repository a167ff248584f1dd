use Rattle.std.proofs.Common.{◌≡◌, ◌++◌, length, map, ◌+◌, ◌*◌, ◌≤◌, ◌<◌, ℕ, codes}
use Rattle.ds2_tree.specs.Parsers.{and_then, pure, seq, many_of}
use Rattle.ds2_tree.specs.declared.expressions.ChainKind.{ChainKind}
use Rattle.ds2_tree.specs.declared.expressions.ChainKind.TheVariants.{Or, And, Concatenation, Sum, Product}
use Rattle.ds2_tree.specs.Expressions.{is_operator}
use Rattle.ds2_tree.specs.ExpressionViews.{arguments_of}
use Rattle.ds2_parse_rules.specs.GrammarTokens.{mark_rule, is_comma_mark}
use Rattle.ds2_parse_rules.specs.ExpressionGrammar.{expression}
use Rattle.ds2_parse_statements.specs.ExpressionParts.{link_rule, operand_pair, and_further}
use Rattle.ds2_parse_statements.proofs.expressions.+expressions.Given as goal

-- how many calls lead from an operand of this kind to a token
abbrev rank : ChainKind → ℕ
rank Or = 16
rank And = 14
rank Concatenation = 10
rank Sum = 8
rank Product = 6

abbrev pub decreases-chain : goal.decreases-chain
decreases-chain l = 20 * length l.tokens.now + rank l.kind + 1

abbrev pub decreases-operands : goal.decreases-operands
decreases-operands l = 20 * length l.tokens.now

abbrev pub decreases-operand : goal.decreases-operand
decreases-operand l = 20 * length l.tokens.now + rank l.kind

abbrev pub decreases-negation : goal.decreases-negation
decreases-negation l = 20 * length l.tokens.now + 13

abbrev pub decreases-comparison : goal.decreases-comparison
decreases-comparison l = 20 * length l.tokens.now + 12

abbrev pub decreases-compared : goal.decreases-compared
decreases-compared l = 20 * length l.tokens.now + 12

abbrev pub decreases-unary : goal.decreases-unary
decreases-unary l = 20 * length l.tokens.now + 5

abbrev pub decreases-primary : goal.decreases-primary
decreases-primary l = 20 * length l.tokens.now + 4

abbrev pub decreases-named : goal.decreases-named
decreases-named l = 20 * length l.tokens.now + 3

abbrev pub decreases-optional_arguments : goal.decreases-optional_arguments
decreases-optional_arguments l = 20 * length l.tokens.now + 2

abbrev pub decreases-argument_list : goal.decreases-argument_list
decreases-argument_list l = 20 * length l.tokens.now + 1

abbrev pub decreases-parenthesis : goal.decreases-parenthesis
decreases-parenthesis l = 20 * length l.tokens.now + 1

abbrev pub decreases-arguments : goal.decreases-arguments
decreases-arguments l = 20 * length l.tokens.now + 19

abbrev pub decreases-values : goal.decreases-values
decreases-values l = 20 * length l.tokens.now + 18

abbrev pub decreases-further_values : goal.decreases-further_values
decreases-further_values l = 20 * length l.tokens.now

-- some turns are left, more than tokens, and they give what the whole gives
abbrev pub invariant-operands-loop-operator : goal.invariant-operands-loop-operator
invariant-operands-loop-operator l = record {
  same : (m : ℕ) → length l.tokens < m → (j : ℕ) × (length l.rest < j)
      × (many_of m (is_operator l.kind) (link_rule m l.levels l.kind) l.tokens ≡ and_then (many_of j (is_operator l.kind) (link_rule m l.levels l.kind) l.rest) (λ rs. pure (map operand_pair l.found ++ rs)));
  shorter : length l.rest ≤ length l.tokens;
}

abbrev pub decreases-operands-loop-operator : goal.decreases-operands-loop-operator
decreases-operands-loop-operator l = length l.rest

abbrev pub invariant-further_values-loop-comma : goal.invariant-further_values-loop-comma
invariant-further_values-loop-comma l = record {
  same : (m : ℕ) → length l.tokens < m → (j : ℕ) × (length l.rest < j)
      × (and_then (many_of m is_comma_mark (seq (mark_rule (codes ",")) (expression m l.levels)) l.tokens) (λ rs. pure (and_further (arguments_of l.fn.found) rs))
      ≡ and_then (many_of j is_comma_mark (seq (mark_rule (codes ",")) (expression m l.levels)) l.rest) (λ rs. pure (and_further (arguments_of l.found) rs)));
  shorter : length l.rest ≤ length l.tokens;
}

abbrev pub decreases-further_values-loop-comma : goal.decreases-further_values-loop-comma
decreases-further_values-loop-comma l = length l.rest
