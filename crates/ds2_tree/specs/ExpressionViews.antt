-- The trees of the expressions that the code holds.
use Rattle.std.specs.Prelude.{List, [], ◌∷◌}
use Rattle.ds2_tree.specs.declared.expressions.Operand as code_operand
use Rattle.ds2_tree.specs.declared.expressions.Argument as code_argument
use Rattle.ds2_tree.specs.declared.expressions.Expression as code
use Rattle.ds2_tree.specs.declared.expressions.Expression.{Row_of-Operand, end_of-Operand, more_of-Operand, Row_of-Argument, end_of-Argument, more_of-Argument}
use Rattle.ds2_tree.specs.declared.expressions.Expression.TheVariants as expression
use Rattle.ds2_tree.specs.Expressions.{Expression, Constant, Null, Variable, Member, Call, Parenthesis, Sign, Chain, Comparison, Not, Operands, NoOperand, Operand, Arguments, NoArgument, Argument}

abbrev mutual
  -- the tree of an expression
  pub expression_tree : code.Expression → Expression
  expression_tree (expression.Constant t) = Constant t
  expression_tree (expression.Null t) = Null t
  expression_tree (expression.Variable t) = Variable t
  expression_tree (expression.Member object p member) = Member object p member.value
  expression_tree (expression.Call' callee p n row q) = Call callee.value p (arguments_row row) q
  expression_tree (expression.Parenthesis' p r e q) = Parenthesis p (expression_tree e) q
  expression_tree (expression.Sign' o p e) = Sign o (expression_tree e)
  expression_tree (expression.Chain' kind p first n row) = Chain kind (expression_tree first) (operands_row row)
  expression_tree (expression.Comparison' p a o q b) = Comparison (expression_tree a) o (expression_tree b)
  expression_tree (expression.Not' o p e) = Not o (expression_tree e)

  -- the operands of a chain, in the row that the chain holds
  pub operands_row : {m : _} → Row_of-Operand m → Operands
  operands_row end_of-Operand = NoOperand
  operands_row (more_of-Operand o e rest) = Operand o (expression_tree e) (operands_row rest)

  -- the arguments of a call, in the row that the call holds
  pub arguments_row : {m : _} → Row_of-Argument m → Arguments
  arguments_row end_of-Argument = NoArgument
  arguments_row (more_of-Argument c e rest) = Argument c (expression_tree e) (arguments_row rest)

-- operands that the code holds in a list
abbrev pub operands_of : List code_operand.Operand → Operands
operands_of [] = NoOperand
operands_of (o ∷ os) = Operand o.operator (expression_tree o.value) (operands_of os)

-- arguments that the code holds in a list
abbrev pub arguments_of : List code_argument.Argument → Arguments
arguments_of [] = NoArgument
arguments_of (a ∷ as') = Argument a.comma (expression_tree a.value) (arguments_of as')
