use Rattle.ds2_parse_rules.specs.ReadingGrammar.{set_from_rule, reading_of_kind}
use Rattle.ds2_tree.specs.Parsers.{One}
use Rattle.ds2_parse_rules.proofs.RuleSteps.{read_whole, read_stops}
use Rattle.ds2_parse_declarations.proofs.readings.set_from.Goals as goal

pub returns-in_err-parts-clause-exact : goal.returns-in_err-parts-clause-exact
returns-in_err-parts-clause-exact c m lt = read_stops c.args.end (λ x. (x.0, x.1.now)) c.from_residual.result c.in_err-parts.field-0.0 (λ x. reading_of_kind (One (c.args.keyword, One x))) set_from_rule c.args.tokens.now c.from_residual.ensures.1 (c.in_err-parts.ensures.exact m lt)

pub returns-clause-exact : goal.returns-clause-exact
returns-clause-exact c m lt = read_whole (λ x. reading_of_kind (One (c.args.keyword, One x))) set_from_rule c.args.tokens.now c.in_ok-parts.parts c.in_ok-parts.rest.now (c.in_ok-parts.ensures.exact m lt)
