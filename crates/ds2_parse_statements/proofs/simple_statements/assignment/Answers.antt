use Rattle.std.proofs.Common.{codes}
use Rattle.ds2_tree.specs.Parsers.{seq}
use Rattle.ds2_tree.specs.Statements.{Assignment}
use Rattle.ds2_tree.specs.ExpressionViews.{expression_tree}
use Rattle.ds2_tree.specs.StatementViews.{statement_tree}
use Rattle.ds2_parse_rules.specs.GrammarTokens.{mark_rule}
use Rattle.ds2_parse_rules.specs.ExpressionGrammar.{expression}
use Rattle.ds2_parse_rules.proofs.RuleSteps.{read_whole, read_stops}
use Rattle.ds2_parse_statements.proofs.simple_statements.assignment.Goals as goal

pub returns-in_err-parts-clause-exact : goal.returns-in_err-parts-clause-exact
returns-in_err-parts-clause-exact c m lt =
    read_stops c.args.end (λ x. (statement_tree x.0, x.1.now)) c.from_residual.result c.in_err-parts.field-0.0 (λ x. Assignment c.args.target x.0 x.1.0 x.1.1) (seq (mark_rule (codes "=")) (seq (expression m c.args.levels) (mark_rule (codes ";")))) c.args.tokens.now c.from_residual.ensures.1 (c.in_err-parts.ensures.exact m lt)

pub returns-clause-exact : goal.returns-clause-exact
returns-clause-exact c m lt =
    read_whole (λ x. Assignment c.args.target x.0 x.1.0 x.1.1) (seq (mark_rule (codes "=")) (seq (expression m c.args.levels) (mark_rule (codes ";")))) c.args.tokens.now (c.in_ok-parts.parts.0, (expression_tree c.in_ok-parts.parts.1.0, c.in_ok-parts.parts.1.1)) c.in_ok-parts.rest.now (c.in_ok-parts.ensures.exact m lt)
