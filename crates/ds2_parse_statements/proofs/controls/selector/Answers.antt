use Rattle.ds2_parse_statements.proofs.controls.selector.Goals as goal

pub returns-clause-exact : goal.returns-clause-exact
returns-clause-exact c m lt = c.optional_of.ensures.exact m lt
