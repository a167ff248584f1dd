use Rattle.ds2_parse_statements.proofs.ExpressionLaws.{one_expression}
use Rattle.ds2_parse_statements.proofs.laws.grammar_reads_expressions.Goals as goal

pub returns : goal.returns
returns c = one_expression
