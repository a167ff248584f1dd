use Rattle.std.proofs.Common.{◌≡◌, ◌++◌, ◌∷◌, [], None, sym, ap, ◌∙◌, subst, arith}
use Rattle.ds2_tree.specs.Parsers.{kept, to, seq, many_of}
use Rattle.ds2_tree.specs.Promise.{Fails, Gives}
use Rattle.ds2_token.specs.Words.{is_name_token}
use Rattle.ds2_parse_rules.specs.GlobalGrammar.{begins_bracketed_name, bracketed_name_of, bracketed_name_rule, bracketed_names_of}
use Rattle.ds2_parse_rules.proofs.RuleSteps.{exit, held, taken, on_read, on_stop}
use Rattle.ds2_parse_declarations.proofs.declarations.BracketedNamesRuleRule.read.Goals as goal

pub returns-in_err-name-clause-exact : goal.returns-in_err-name-clause-exact
returns-in_err-name-clause-exact c m lt =
    exit c.args.end (λ x. (x.0, x.1.now)) c.from_residual.result c.in_err-name.field-0.0 (to bracketed_names_of (seq (kept is_name_token) (many_of m begins_bracketed_name bracketed_name_rule)) c.args.tokens.now) c.from_residual.ensures.1
    (held (Fails c.args.end c.in_err-name.field-0.0) bracketed_names_of (seq (kept is_name_token) (many_of m begins_bracketed_name bracketed_name_rule)) c.args.tokens.now
    (on_stop (kept is_name_token) (many_of m begins_bracketed_name bracketed_name_rule) c.args.end c.in_err-name.field-0.0 c.in_err-name.ensures.exact))

pub returns-clause-exact : goal.returns-clause-exact
returns-clause-exact c m lt =
    subst (Gives c.args.end (λ x. (x.0, x.1.now)) c.further_of.result)
    (sym (held (λ o. o ≡ to (λ l. c.push.new.self ++ l) (many_of m begins_bracketed_name bracketed_name_rule) c.in_ok-name.rest.now) bracketed_names_of (seq (kept is_name_token) (many_of m begins_bracketed_name bracketed_name_rule)) c.args.tokens.now (on_read (kept is_name_token) (many_of m begins_bracketed_name bracketed_name_rule) c.in_ok-name.ensures.exact (taken (ap (λ n. to (λ l. n ++ l) (many_of m begins_bracketed_name bracketed_name_rule) c.in_ok-name.rest.now) (sym (c.in_ok-push.ensures.ok ∙ ap (λ l. l ++ bracketed_name_of (None, c.in_ok-name.name) ∷ []) c.new-found.ensures)))))))
    (c.further_of.ensures.exact m (omega (arith, lt, c.in_ok-name.ensures.shorter)))
