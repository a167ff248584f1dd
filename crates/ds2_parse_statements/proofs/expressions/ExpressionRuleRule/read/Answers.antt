use Rattle.ds2_parse_statements.proofs.expressions.ExpressionRuleRule.read.Goals as goal

pub returns-clause-exact : goal.returns-clause-exact
returns-clause-exact c m lt = c.expression.ensures.exact m lt
