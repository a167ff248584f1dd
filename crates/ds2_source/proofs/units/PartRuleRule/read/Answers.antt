use Rattle.ds2_source.proofs.units.PartRuleRule.read.Goals as goal

pub returns-clause-exact : goal.returns-clause-exact
returns-clause-exact c m lt = c.part.ensures.exact m lt
