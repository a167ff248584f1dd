use Rattle.std.proofs.Common.{codes, length, suc, arith}
use Rattle.ds2_tree.specs.Statements.{Continue}
use Rattle.ds2_tree.specs.StatementViews.{statement_tree}
use Rattle.ds2_parse_rules.specs.StatementGrammar.{plain_rule}
use Rattle.ds2_parse_rules.proofs.RuleSteps.{read_whole, read_stops}
use Rattle.ds2_parse_statements.proofs.simple_statements.continued.Goals as goal

pub returns-in_err-parts-clause-exact : goal.returns-in_err-parts-clause-exact
returns-in_err-parts-clause-exact c =
    read_stops c.args.end (λ x. (statement_tree x.0, x.1.now)) c.from_residual.result c.in_err-parts.field-0.0 (λ x. Continue x.0 x.1) (plain_rule (codes "continue")) c.args.tokens.now c.from_residual.ensures.1 (c.in_err-parts.ensures.exact (suc (length c.args.tokens.now)) (omega arith))

pub returns-clause-exact : goal.returns-clause-exact
returns-clause-exact c =
    read_whole (λ x. Continue x.0 x.1) (plain_rule (codes "continue")) c.args.tokens.now c.in_ok-parts.parts c.in_ok-parts.rest.now (c.in_ok-parts.ensures.exact (suc (length c.args.tokens.now)) (omega arith))
