-- What is read within an expression, at each level of operators and of nesting. m bounds the turns of each list, n the levels.
use Rattle.std.specs.Prelude.{ℕ, zero, suc, List, Option}
use Rattle.ds2_base.specs.declared.place.Place.{Place}
use Rattle.ds2_token.specs.declared.token.Token.{Token}
use Rattle.ds2_tree.specs.Parsers.{Parser, kept, seq, optional, closed}
use Rattle.ds2_tree.specs.declared.expressions.ChainKind.{ChainKind}
use Rattle.ds2_tree.specs.declared.expressions.ChainKind.TheVariants.{Or, And, Concatenation, Sum, Product}
use Rattle.ds2_tree.specs.declared.expressions.Operand as code_operand
use Rattle.ds2_tree.specs.Expressions.{Expression, Arguments, NoArgument, Argument, is_sign, is_not, is_comparison, is_operator}
use Rattle.ds2_tree.specs.ExpressionViews as view
use Rattle.ds2_parse_statements.specs.declared.trees.CallArguments as code_arguments
use Rattle.ds2_parse_rules.specs.GrammarTokens.{is_open_mark}
use Rattle.ds2_parse_rules.specs.ExpressionGrammar.{ArgumentList, listed_further, operators, paren_with, three, expression}

-- ---- rules

-- ("-"|"+") unary | prim
abbrev pub unary_rule : ℕ → ℕ → Parser Expression
unary_rule m n = (three m n).0

-- ("not"|"^"|"~") neg | comp
abbrev pub negation_rule : ℕ → ℕ → Parser Expression
negation_rule m n = (three m n).1.0

-- an operand of a chain of this kind
abbrev pub operand_rule : ℕ → ℕ → ChainKind → Parser Expression
operand_rule m n Or = operators m And (negation_rule m n)
operand_rule m n And = negation_rule m n
operand_rule m n Concatenation = operators m Sum (operators m Product (unary_rule m n))
operand_rule m n Sum = operators m Product (unary_rule m n)
operand_rule m n Product = unary_rule m n

-- an operator of a chain of this kind and the operand behind it
abbrev pub link_rule : ℕ → ℕ → ChainKind → Parser (Token × Expression)
link_rule m n kind = seq (kept (is_operator kind)) (operand_rule m n kind)

-- [ cmp cat ]
abbrev pub compared_rule : ℕ → ℕ → Parser (Option (Token × Expression))
compared_rule m n = optional is_comparison (seq (kept is_comparison) (operators m Concatenation (operand_rule m n Concatenation)))

-- a sign and its operand
abbrev pub signed_rule : ℕ → ℕ → Parser (Token × Expression)
signed_rule m zero = closed is_sign
signed_rule m (suc n) = seq (kept is_sign) (unary_rule m n)

-- a negation and its operand
abbrev pub negated_rule : ℕ → ℕ → Parser (Token × Expression)
negated_rule m zero = closed is_not
negated_rule m (suc n) = seq (kept is_not) (negation_rule m n)

-- "(" expr ")"
abbrev pub parenthesis_rule : ℕ → ℕ → Parser (Place × (Expression × Place))
parenthesis_rule m zero = closed is_open_mark
parenthesis_rule m (suc n) = paren_with (expression m n)

-- ---- trees of what the code holds

-- a further operand of a chain and its operator
abbrev pub operand_pair : code_operand.Operand → Token × Expression
operand_pair o = (o.operator, view.expression_tree o.value)

-- an argument list
abbrev pub argument_parts : code_arguments.CallArguments → ArgumentList
argument_parts a = (a.opening, (view.arguments_of a.arguments, a.closing))

-- arguments, and further ones behind them
abbrev pub and_further : Arguments → List (Place × Expression) → Arguments
and_further NoArgument l = listed_further l
and_further (Argument comma e rest) l = Argument comma e (and_further rest l)
