use Rattle.std.proofs.Common.{codes}
use Rattle.ds2_tree.specs.Parsers.{seq, many_of}
use Rattle.ds2_tree.specs.Statements.{Put}
use Rattle.ds2_tree.specs.StatementViews.{statement_tree}
use Rattle.ds2_parse_rules.specs.GrammarTokens.{mark_rule, word_rule}
use Rattle.ds2_parse_rules.specs.StatementGrammar.{begins_item, item_rule}
use Rattle.ds2_parse_rules.proofs.RuleSteps.{read_whole, read_stops}
use Rattle.ds2_parse_statements.proofs.simple_statements.put.Goals as goal

pub returns-in_err-parts-clause-exact : goal.returns-in_err-parts-clause-exact
returns-in_err-parts-clause-exact c m lt =
    read_stops c.args.end (λ x. (statement_tree x.0, x.1.now)) c.from_residual.result c.in_err-parts.field-0.0 (λ x. Put x.0 x.1.0 x.1.1) (seq (word_rule (codes "put")) (seq (many_of m begins_item item_rule) (mark_rule (codes ";")))) c.args.tokens.now c.from_residual.ensures.1 (c.in_err-parts.ensures.exact m lt)

pub returns-clause-exact : goal.returns-clause-exact
returns-clause-exact c m lt =
    read_whole (λ x. Put x.0 x.1.0 x.1.1) (seq (word_rule (codes "put")) (seq (many_of m begins_item item_rule) (mark_rule (codes ";")))) c.args.tokens.now c.in_ok-parts.parts c.in_ok-parts.rest.now (c.in_ok-parts.ensures.exact m lt)
