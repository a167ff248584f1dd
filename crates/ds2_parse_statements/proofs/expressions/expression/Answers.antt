use Rattle.std.proofs.Common.{sym, subst}
use Rattle.ds2_tree.specs.Promise.{Gives}
use Rattle.ds2_tree.specs.ExpressionViews.{expression_tree}
use Rattle.ds2_parse_statements.proofs.ExpressionSteps.{expression_at}
use Rattle.ds2_parse_statements.proofs.StatementPromises.{expression_promise}
use Rattle.ds2_parse_statements.proofs.expressions.expression.Goals as goal

pub returns-clause-exact : goal.returns-clause-exact
returns-clause-exact c m lt =
    subst (Gives c.args.end (λ x. (expression_tree x.0, x.1.now)) c.chain.result) (sym (expression_at m c.args.levels c.args.tokens.now)) (c.chain.ensures.exact m lt)

pub returns-clause-promise : goal.returns-clause-promise
returns-clause-promise c =
    expression_promise (λ x. (expression_tree x.0, x.1.now)) c.args.levels c.args.end c.args.tokens.now c.chain.result
    (λ m lt. subst (Gives c.args.end (λ x. (expression_tree x.0, x.1.now)) c.chain.result) (sym (expression_at m c.args.levels c.args.tokens.now)) (c.chain.ensures.exact m lt))
