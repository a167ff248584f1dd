use Rattle.ds2_parse_statements.proofs.StatementSumLaws.{one_statement}
use Rattle.ds2_parse_statements.proofs.laws.grammar_reads_statements.Goals as goal

pub returns : goal.returns
returns c = one_statement
