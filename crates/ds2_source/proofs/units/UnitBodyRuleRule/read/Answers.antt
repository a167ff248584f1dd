use Rattle.ds2_parse_rules.specs.UnitGrammar.{unit_body_rule}
use Rattle.ds2_parse_rules.proofs.RuleSteps.{exit}
use Rattle.ds2_source.specs.UnitBodies.{unit_body_parts}
use Rattle.ds2_source.proofs.units.UnitBodyRuleRule.read.Goals as goal

pub returns-in_err-parts-clause-exact : goal.returns-in_err-parts-clause-exact
returns-in_err-parts-clause-exact c m lt =
    exit c.args.end (λ x. (unit_body_parts x.0, x.1.now)) c.from_residual.result c.in_err-parts.field-0.0 (unit_body_rule m c.args.self.now.levels c.args.self.now.end_word.now c.args.tokens.now) c.from_residual.ensures.1 (c.in_err-parts.ensures.exact m lt)

pub returns-clause-exact : goal.returns-clause-exact
returns-clause-exact c m lt = c.in_ok-parts.ensures.exact m lt
