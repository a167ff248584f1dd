use Rattle.std.proofs.Common.{sym, ap, ◌∙◌}
use Rattle.ds2_tree.specs.Parsers.{Read}
use Rattle.ds2_tree.specs.ExpressionViews.{expression_tree}
use Rattle.ds2_parse_rules.specs.GrammarTokens.{enclosed}
use Rattle.ds2_parse_rules.specs.ExpressionGrammar.{expression}
use Rattle.ds2_parse_rules.proofs.RuleSteps.{exit}
use Rattle.ds2_parse_statements.specs.StatementParts.{selector_parts}
use Rattle.ds2_parse_statements.proofs.controls.SelectorRuleRule.read.Goals as goal

pub returns-in_err-parts-clause-exact : goal.returns-in_err-parts-clause-exact
returns-in_err-parts-clause-exact c m lt =
    exit c.args.end (λ x. (selector_parts x.0, x.1.now)) c.from_residual.result c.in_err-parts.field-0.0 (enclosed (expression m c.args.self.now.levels) c.args.tokens.now) c.from_residual.ensures.1 (c.in_err-parts.ensures.exact m lt)

pub returns-clause-exact : goal.returns-clause-exact
returns-clause-exact c m lt =
    c.in_ok-parts.ensures.exact m lt
    ∙ ap (λ e. Read (c.in_ok-parts.parts.0, (expression_tree e, c.in_ok-parts.parts.1.1)) c.in_ok-parts.rest.now) (sym c.in_ok-boxed.ensures.ok)
