use Rattle.std.proofs.Common.{sym, ap, ◌∙◌}
use Rattle.ds2_tree.specs.Parsers.{Read}
use Rattle.ds2_tree.specs.Statements.{Tested}
use Rattle.ds2_tree.specs.ExpressionViews.{expression_tree}
use Rattle.ds2_tree.specs.StatementViews.{tested_tree, control_tree}
use Rattle.ds2_parse_rules.specs.GrammarTokens.{enclosed}
use Rattle.ds2_parse_rules.specs.ExpressionGrammar.{expression}
use Rattle.ds2_parse_rules.proofs.RuleSteps.{read_whole, read_stops}
use Rattle.ds2_parse_statements.proofs.controls.tested.Goals as goal

pub returns-in_err-parts-clause-exact : goal.returns-in_err-parts-clause-exact
returns-in_err-parts-clause-exact c m lt =
    read_stops c.args.end (λ x. (control_tree x.0, x.1.now)) c.from_residual.result c.in_err-parts.field-0.0 (λ x. Tested c.args.keyword x.0 x.1.0 x.1.1) (enclosed (expression m c.args.levels)) c.args.tokens.now c.from_residual.ensures.1 (c.in_err-parts.ensures.exact m lt)

pub returns-clause-exact : goal.returns-clause-exact
returns-clause-exact c m lt =
    let parts = c.in_ok-parts.parts in
    read_whole (λ x. Tested c.args.keyword x.0 x.1.0 x.1.1) (enclosed (expression m c.args.levels)) c.args.tokens.now (parts.0, (expression_tree parts.1.0, parts.1.1)) c.in_ok-parts.rest.now (c.in_ok-parts.ensures.exact m lt)
    ∙ ap (λ d. Read (tested_tree d) c.in_ok-parts.rest.now) (sym c.in_ok-boxed.ensures.ok)
