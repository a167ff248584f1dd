use Rattle.ds2_parse_statements.proofs.statements.StatementRuleRule.read.Goals as goal

pub returns-clause-exact : goal.returns-clause-exact
returns-clause-exact c m lt = c.statement.ensures.exact m lt
