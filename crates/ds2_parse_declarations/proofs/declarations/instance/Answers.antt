use Rattle.ds2_parse_rules.specs.GlobalGrammar.{instance_rule, package_declaration}
use Rattle.ds2_tree.specs.Parsers.{Two}
use Rattle.ds2_parse_rules.proofs.RuleSteps.{read_whole, read_stops}
use Rattle.ds2_parse_declarations.proofs.declarations.instance.Goals as goal

pub returns-in_err-parts-clause-exact : goal.returns-in_err-parts-clause-exact
returns-in_err-parts-clause-exact c m lt = read_stops c.args.end (λ x. (x.0, x.1.now)) c.from_residual.result c.in_err-parts.field-0.0 (λ x. package_declaration c.args.keyword c.args.package_keyword (Two (Two x))) (instance_rule m) c.args.tokens.now c.from_residual.ensures.1 (c.in_err-parts.ensures.exact m lt)

pub returns-clause-exact : goal.returns-clause-exact
returns-clause-exact c m lt = read_whole (λ x. package_declaration c.args.keyword c.args.package_keyword (Two (Two x))) (instance_rule m) c.args.tokens.now c.in_ok-parts.parts c.in_ok-parts.rest.now (c.in_ok-parts.ensures.exact m lt)
