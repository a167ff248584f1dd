use Rattle.std.proofs.Common.{codes, sym, ap, ◌∙◌}
use Rattle.ds2_tree.specs.Parsers.{Read, seq}
use Rattle.ds2_tree.specs.Statements.{Call}
use Rattle.ds2_tree.specs.StatementViews.{statement_tree}
use Rattle.ds2_parse_rules.specs.GrammarTokens.{mark_rule}
use Rattle.ds2_parse_rules.specs.ExpressionGrammar.{argument_list}
use Rattle.ds2_parse_statements.specs.ExpressionParts.{argument_parts}
use Rattle.ds2_parse_rules.proofs.RuleSteps.{read_whole, read_stops}
use Rattle.ds2_parse_statements.proofs.simple_statements.ended_call.Goals as goal

pub returns-in_err-parts-clause-exact : goal.returns-in_err-parts-clause-exact
returns-in_err-parts-clause-exact c m lt =
    read_stops c.args.end (λ x. (statement_tree x.0, x.1.now)) c.from_residual.result c.in_err-parts.field-0.0 (λ x. Call c.args.callee x.0.0 x.0.1.0 x.0.1.1 x.1) (seq (argument_list m c.args.levels) (mark_rule (codes ";"))) c.args.tokens.now c.from_residual.ensures.1 (c.in_err-parts.ensures.exact m lt)

pub returns-clause-exact : goal.returns-clause-exact
returns-clause-exact c m lt =
    read_whole (λ x. Call c.args.callee x.0.0 x.0.1.0 x.0.1.1 x.1) (seq (argument_list m c.args.levels) (mark_rule (codes ";"))) c.args.tokens.now (argument_parts c.in_ok-parts.parts.0, c.in_ok-parts.parts.1) c.in_ok-parts.rest.now (c.in_ok-parts.ensures.exact m lt)
    ∙ ap (λ s. Read s c.in_ok-parts.rest.now) (sym c.call_statement.ensures)
