use Rattle.std.proofs.Common.{◌++◌, ◌∷◌, [], sym, ap, ◌∙◌, subst, arith}
use Rattle.ds2_tree.specs.Parsers.{to, many_of}
use Rattle.ds2_tree.specs.Promise.{Gives}
use Rattle.ds2_parse_rules.specs.GrammarTokens.{is_comma_mark, comma_list}
use Rattle.ds2_parse_rules.specs.GlobalGrammar.{begins_parameter, parameter_rule, parameter_behind}
use Rattle.ds2_parse_declarations.specs.UnitParts.{behind_comma}
use Rattle.ds2_parse_rules.proofs.RuleSteps.{exit}
use Rattle.ds2_parse_declarations.proofs.UnitSteps.{first_stops, first_item}
use Rattle.ds2_parse_declarations.proofs.parameters.parameter_list.Goals as goal

pub returns-in_err-first-clause-exact : goal.returns-in_err-first-clause-exact
returns-in_err-first-clause-exact c m lt =
    exit c.args.end (λ x. (x.0, x.1.now)) c.from_residual.result c.in_err-first.field-0.0 (comma_list m begins_parameter parameter_behind parameter_rule c.args.tokens.now) c.from_residual.ensures.1
    (first_stops m begins_parameter parameter_behind parameter_rule c.args.tokens.now (sym c.at.ensures ∙ c.if-at.true) c.args.end c.in_err-first.field-0.0 c.in_err-first.ensures.exact)

pub returns-then-at-clause-exact : goal.returns-then-at-clause-exact
returns-then-at-clause-exact c m lt =
    subst (Gives c.args.end (λ x. (x.0, x.1.now)) c.further_of.result)
    (sym (first_item m begins_parameter parameter_behind parameter_rule c.args.tokens.now (sym c.at.ensures ∙ c.if-at.true) c.in_ok-first.first c.in_ok-first.rest.now c.in_ok-first.ensures.exact
    ∙ ap (λ n. to (λ l. n ++ l) (many_of m is_comma_mark (behind_comma parameter_behind parameter_rule)) c.in_ok-first.rest.now) (sym (c.in_ok-push.ensures.ok ∙ ap (λ l. l ++ c.in_ok-first.first ∷ []) c.new-found.ensures))))
    (c.further_of.ensures.exact m (omega (arith, lt, c.in_ok-first.ensures.shorter)))
