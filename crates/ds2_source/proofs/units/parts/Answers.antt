use Rattle.ds2_source.proofs.units.parts.Goals as goal

pub returns-clause-exact : goal.returns-clause-exact
returns-clause-exact c m lt = c.items_of.ensures.exact m lt
