use Rattle.ds2_tree.specs.Parsers.{One, Two}
use Rattle.ds2_tree.specs.UnitViews.{global_tree}
use Rattle.ds2_parse_rules.specs.GlobalGrammar.{listed_rule, global_of_kind}
use Rattle.ds2_parse_rules.proofs.RuleSteps.{read_whole, read_stops}
use Rattle.ds2_source.proofs.globals.listed.Goals as goal

pub returns-in_err-parts-clause-exact : goal.returns-in_err-parts-clause-exact
returns-in_err-parts-clause-exact c m lt =
    read_stops c.args.end (λ x. (global_tree x.0, x.1.now)) c.from_residual.result c.in_err-parts.field-0.0 (λ x. global_of_kind (Two (One x))) (listed_rule m) c.args.tokens.now c.from_residual.ensures.1 (c.in_err-parts.ensures.exact m lt)

pub returns-clause-exact : goal.returns-clause-exact
returns-clause-exact c m lt = read_whole (λ x. global_of_kind (Two (One x))) (listed_rule m) c.args.tokens.now c.in_ok-parts.parts c.in_ok-parts.rest.now (c.in_ok-parts.ensures.exact m lt)
