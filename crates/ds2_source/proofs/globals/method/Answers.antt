use Rattle.std.proofs.Common.{codes, ◌∙◌}
use Rattle.ds2_token.specs.Words.{is_name_token}
use Rattle.ds2_tree.specs.Parsers.{kept, seq, optional}
use Rattle.ds2_tree.specs.UnitViews.{method_tree}
use Rattle.ds2_parse_rules.specs.GrammarTokens.{mark_rule, word_rule, starts}
use Rattle.ds2_parse_rules.specs.StatementGrammar.{statement_rule}
use Rattle.ds2_parse_rules.specs.GlobalGrammar.{parameters_rule, returns_rule, body_rule, method_of}
use Rattle.ds2_parse_rules.proofs.RuleSteps.{read_whole, read_stops}
use Rattle.ds2_source.specs.MethodBodies.{method_body_parts}
use Rattle.ds2_source.proofs.MethodSteps.{with_body}
use Rattle.ds2_source.proofs.globals.method.Goals as goal

pub returns-in_err-parts-clause-exact : goal.returns-in_err-parts-clause-exact
returns-in_err-parts-clause-exact c m lt =
    read_stops c.args.end (λ x. (method_tree x.0, x.1.now)) c.from_residual.result c.in_err-parts.field-0.0 method_of (seq (word_rule (codes "method")) (seq (kept is_name_token) (seq (parameters_rule m) (seq (optional (starts (codes "returns")) returns_rule) (seq (mark_rule (codes ";")) (body_rule m (statement_rule m c.args.levels))))))) c.args.tokens.now c.from_residual.ensures.1 (c.in_err-parts.ensures.exact m lt)

pub returns-clause-exact : goal.returns-clause-exact
returns-clause-exact c m lt =
    let parts = c.in_ok-parts.parts in
    let body = parts.1.1.1.1.1 in
    read_whole method_of (seq (word_rule (codes "method")) (seq (kept is_name_token) (seq (parameters_rule m) (seq (optional (starts (codes "returns")) returns_rule) (seq (mark_rule (codes ";")) (body_rule m (statement_rule m c.args.levels))))))) c.args.tokens.now (parts.0, (parts.1.0, (parts.1.1.0, (parts.1.1.1.0, (parts.1.1.1.1.0, method_body_parts body))))) c.in_ok-parts.rest.now (c.in_ok-parts.ensures.exact m lt)
    ∙ with_body (λ b. record { keyword = parts.0; name = parts.1.0; parameters = parts.1.1.0; returns = parts.1.1.1.0; semicolon = parts.1.1.1.1.0; locals = body.locals; reading = body.reading; body = b; end_keyword = body.end_keyword; end = body.end }) c.in_ok-parts.rest.now body.statements
