use Rattle.ds2_parse_statements.proofs.expressions.ArgumentsRuleRule.read.Goals as goal

pub returns-clause-exact : goal.returns-clause-exact
returns-clause-exact c m lt = c.argument_list.ensures.exact m lt
