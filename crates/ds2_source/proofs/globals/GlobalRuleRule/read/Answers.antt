use Rattle.ds2_source.proofs.globals.GlobalRuleRule.read.Goals as goal

pub returns-clause-exact : goal.returns-clause-exact
returns-clause-exact c m lt = c.global.ensures.exact m lt
