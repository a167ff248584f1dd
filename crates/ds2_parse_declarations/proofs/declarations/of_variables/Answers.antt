use Rattle.ds2_tree.specs.Parsers.{Two, to}
use Rattle.ds2_tree.specs.declared.globals.Declaration.TheVariants as declared_as
use Rattle.ds2_parse_rules.specs.GlobalGrammar.{variables_of, variables_tail, declaration_of}
use Rattle.ds2_parse_rules.proofs.RuleSteps.{exit}
use Rattle.ds2_parse_declarations.proofs.UnitSteps.{again_stops, again_read}
use Rattle.ds2_parse_declarations.proofs.declarations.of_variables.Goals as goal

pub returns-in_err-variables-clause-exact : goal.returns-in_err-variables-clause-exact
returns-in_err-variables-clause-exact c m lt =
    exit c.args.end (λ x. (x.0, x.1.now)) c.from_residual.result c.in_err-variables.field-0.0 (to (λ x. declaration_of (c.args.keyword, Two (Two x))) (variables_tail m) c.args.tokens.now) c.from_residual.ensures.1
    (again_stops (λ x. variables_of (c.args.keyword, x)) declared_as.Variables (variables_tail m) c.args.tokens.now c.args.end c.in_err-variables.field-0.0 (c.in_err-variables.ensures.exact m lt))

pub returns-clause-exact : goal.returns-clause-exact
returns-clause-exact c m lt =
    again_read (λ x. variables_of (c.args.keyword, x)) declared_as.Variables (variables_tail m) c.args.tokens.now c.in_ok-variables.variables c.in_ok-variables.rest.now (c.in_ok-variables.ensures.exact m lt)
