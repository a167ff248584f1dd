use Rattle.std.proofs.Common.{codes}
use Rattle.ds2_tree.specs.Parsers.{seq}
use Rattle.ds2_parse_rules.specs.GrammarTokens.{word_rule}
use Rattle.ds2_parse_rules.specs.ExpressionGrammar.{expression}
use Rattle.ds2_parse_rules.proofs.RuleSteps.{exit}
use Rattle.ds2_parse_statements.specs.StatementParts.{step_parts}
use Rattle.ds2_parse_statements.proofs.controls.StepRuleRule.read.Goals as goal

pub returns-in_err-parts-clause-exact : goal.returns-in_err-parts-clause-exact
returns-in_err-parts-clause-exact c m lt =
    exit c.args.end (λ x. (step_parts x.0, x.1.now)) c.from_residual.result c.in_err-parts.field-0.0 (seq (word_rule (codes "by")) (expression m c.args.self.now.levels) c.args.tokens.now) c.from_residual.ensures.1 (c.in_err-parts.ensures.exact m lt)

pub returns-clause-exact : goal.returns-clause-exact
returns-clause-exact c m lt = c.in_ok-parts.ensures.exact m lt
