use Rattle.std.proofs.Common.{codes, sym, subst, arith}
use Rattle.ds2_tree.specs.Parsers.{seq}
use Rattle.ds2_tree.specs.Promise.{Gives}
use Rattle.ds2_tree.specs.Statements.{Call}
use Rattle.ds2_tree.specs.StatementViews.{statement_tree}
use Rattle.ds2_parse_rules.specs.GrammarTokens.{mark_rule, word_rule}
use Rattle.ds2_parse_rules.specs.ExpressionGrammar.{argument_list}
use Rattle.ds2_parse_statements.proofs.SimpleSteps.{rest_is}
use Rattle.ds2_tree.specs.declared.expressions.Callee.TheVariants as callee
use Rattle.ds2_parse_statements.proofs.simple_statements.null_call.Goals as goal

pub returns-clause-exact : goal.returns-clause-exact
returns-clause-exact c m lt =
    let end = c.args.end in let n = c.args.levels in let ts = c.args.tokens.now in
    subst (Gives end (λ x. (statement_tree x.0, x.1.now)) c.ended_call.result)
    (sym (rest_is (λ x. Call (callee.Null x.0) x.1.0.0 x.1.0.1.0 x.1.0.1.1 x.1.1) (word_rule (codes "null")) (seq (argument_list m n) (mark_rule (codes ";"))) ts c.in_ok-keyword.keyword c.in_ok-keyword.rest.now c.in_ok-keyword.ensures.exact))
    (c.ended_call.ensures.exact m (omega (arith, lt, c.in_ok-keyword.ensures.shorter)))
