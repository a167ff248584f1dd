use Rattle.std.proofs.Common.{sym, ◌∙◌, subst, arith}
use Rattle.ds2_tree.specs.Parsers.{to}
use Rattle.ds2_tree.specs.Promise.{Gives}
use Rattle.ds2_tree.specs.StatementViews.{statement_tree}
use Rattle.ds2_parse_rules.specs.ExpressionGrammar.{expression, argument_list}
use Rattle.ds2_parse_rules.specs.StatementGrammar.{named_statement, named_tail}
use Rattle.ds2_parse_rules.proofs.RuleSteps.{exit}
use Rattle.ds2_parse_statements.proofs.SimpleSteps.{assigned, called, dot_stops, method_stops, method_called}
use Rattle.ds2_parse_statements.proofs.simple_statements.named.Goals as goal

pub returns-then-at_mark-clause-exact : goal.returns-then-at_mark-clause-exact
returns-then-at_mark-clause-exact c m lt =
    let end = c.args.end in let n = c.args.levels in let ts = c.args.tokens.now in
    let name = c.args.name in let E = expression m n in let args = argument_list m n in
    subst (Gives end (λ x. (statement_tree x.0, x.1.now)) c.assignment.result) (sym (assigned name E args ts (sym c.at_mark.ensures ∙ c.if-at_mark.true))) (c.assignment.ensures.exact m lt)

pub returns-then-at_mark-2-clause-exact : goal.returns-then-at_mark-2-clause-exact
returns-then-at_mark-2-clause-exact c m lt =
    let end = c.args.end in let n = c.args.levels in let ts = c.args.tokens.now in
    let name = c.args.name in let E = expression m n in let args = argument_list m n in
    subst (Gives end (λ x. (statement_tree x.0, x.1.now)) c.ended_call.result) (sym (called name E args ts (sym c.at_mark.ensures ∙ c.if-at_mark.false) (sym c.at_mark-2.ensures ∙ c.if-at_mark-2.true))) (c.ended_call.ensures.exact m lt)

pub returns-in_err-dot-clause-exact : goal.returns-in_err-dot-clause-exact
returns-in_err-dot-clause-exact c m lt =
    let end = c.args.end in let n = c.args.levels in let ts = c.args.tokens.now in
    let name = c.args.name in let E = expression m n in let args = argument_list m n in
    let e = c.in_err-dot.field-0.0 in
    exit end (λ x. (statement_tree x.0, x.1.now)) c.from_residual.result e (to (named_statement name) (named_tail E args) ts) c.from_residual.ensures.1
    (dot_stops name E args ts (sym c.at_mark.ensures ∙ c.if-at_mark.false) (sym c.at_mark-2.ensures ∙ c.if-at_mark-2.false) end e c.in_err-dot.ensures.exact)

pub returns-in_err-method-clause-exact : goal.returns-in_err-method-clause-exact
returns-in_err-method-clause-exact c m lt =
    let end = c.args.end in let n = c.args.levels in let ts = c.args.tokens.now in
    let name = c.args.name in let E = expression m n in let args = argument_list m n in
    let e = c.in_err-method.field-0.0 in
    exit end (λ x. (statement_tree x.0, x.1.now)) c.from_residual-in_err-method.result e (to (named_statement name) (named_tail E args) ts) c.from_residual-in_err-method.ensures.1
    (method_stops name E args ts (sym c.at_mark.ensures ∙ c.if-at_mark.false) (sym c.at_mark-2.ensures ∙ c.if-at_mark-2.false) c.in_ok-dot.dot c.in_ok-dot.rest.now c.in_ok-dot.ensures.exact end e c.in_err-method.ensures.exact)

pub returns-clause-exact : goal.returns-clause-exact
returns-clause-exact c m lt =
    let end = c.args.end in let n = c.args.levels in let ts = c.args.tokens.now in
    let name = c.args.name in let E = expression m n in let args = argument_list m n in
    subst (Gives end (λ x. (statement_tree x.0, x.1.now)) c.ended_call-2.result) (sym (method_called name E args ts (sym c.at_mark.ensures ∙ c.if-at_mark.false) (sym c.at_mark-2.ensures ∙ c.if-at_mark-2.false) c.in_ok-dot.dot c.in_ok-dot.rest.now c.in_ok-dot.ensures.exact c.in_ok-method.method c.in_ok-method.rest.now c.in_ok-method.ensures.exact)) (c.ended_call-2.ensures.exact m (omega (arith, lt, c.in_ok-dot.ensures.shorter, c.in_ok-method.ensures.shorter)))
