use Rattle.std.proofs.Common.{◌≡◌, codes, refl, arith}
use Rattle.ds2_tree.specs.Parsers.{Read, to, seq}
use Rattle.ds2_tree.specs.Promise.{Fails}
use Rattle.ds2_parse_rules.specs.GrammarTokens.{mark_rule, comma_list}
use Rattle.ds2_parse_rules.specs.GlobalGrammar.{parameters_of, begins_parameter, parameter_rule, parameter_behind}
use Rattle.ds2_parse_rules.proofs.RuleSteps.{exit, held, on_read, on_stop, on_last, on_last_stop}
use Rattle.ds2_parse_declarations.proofs.parameters.ParametersRuleRule.read.Goals as goal

pub returns-in_err-list-clause-exact : goal.returns-in_err-list-clause-exact
returns-in_err-list-clause-exact c m lt =
    exit c.args.end (λ x. (x.0, x.1.now)) c.from_residual-in_err-list.result c.in_err-list.field-0.0 (to parameters_of (seq (mark_rule (codes "(")) (seq (comma_list m begins_parameter parameter_behind parameter_rule) (mark_rule (codes ")")))) c.args.tokens.now) c.from_residual-in_err-list.ensures.1
    (held (Fails c.args.end c.in_err-list.field-0.0) parameters_of (seq (mark_rule (codes "(")) (seq (comma_list m begins_parameter parameter_behind parameter_rule) (mark_rule (codes ")")))) c.args.tokens.now
    (on_read (mark_rule (codes "(")) (seq (comma_list m begins_parameter parameter_behind parameter_rule) (mark_rule (codes ")"))) c.in_ok-opening.ensures.exact (on_stop (comma_list m begins_parameter parameter_behind parameter_rule) (mark_rule (codes ")")) c.args.end c.in_err-list.field-0.0 (c.in_err-list.ensures.exact m (omega (arith, lt, c.in_ok-opening.ensures.shorter))))))

pub returns-in_err-closing-clause-exact : goal.returns-in_err-closing-clause-exact
returns-in_err-closing-clause-exact c m lt =
    exit c.args.end (λ x. (x.0, x.1.now)) c.from_residual-in_err-closing.result c.in_err-closing.field-0.0 (to parameters_of (seq (mark_rule (codes "(")) (seq (comma_list m begins_parameter parameter_behind parameter_rule) (mark_rule (codes ")")))) c.args.tokens.now) c.from_residual-in_err-closing.ensures.1
    (held (Fails c.args.end c.in_err-closing.field-0.0) parameters_of (seq (mark_rule (codes "(")) (seq (comma_list m begins_parameter parameter_behind parameter_rule) (mark_rule (codes ")")))) c.args.tokens.now
    (on_read (mark_rule (codes "(")) (seq (comma_list m begins_parameter parameter_behind parameter_rule) (mark_rule (codes ")"))) c.in_ok-opening.ensures.exact (on_read (comma_list m begins_parameter parameter_behind parameter_rule) (mark_rule (codes ")")) (c.in_ok-list.ensures.exact m (omega (arith, lt, c.in_ok-opening.ensures.shorter))) (on_last_stop c.args.end c.in_err-closing.field-0.0 c.in_err-closing.ensures.exact))))

pub returns-clause-exact : goal.returns-clause-exact
returns-clause-exact c m lt =
    held (λ o. o ≡ Read (parameters_of (c.in_ok-opening.opening, (c.in_ok-list.list, c.in_ok-closing.closing))) c.in_ok-closing.rest.now) parameters_of (seq (mark_rule (codes "(")) (seq (comma_list m begins_parameter parameter_behind parameter_rule) (mark_rule (codes ")")))) c.args.tokens.now
    (on_read (mark_rule (codes "(")) (seq (comma_list m begins_parameter parameter_behind parameter_rule) (mark_rule (codes ")"))) c.in_ok-opening.ensures.exact (on_read (comma_list m begins_parameter parameter_behind parameter_rule) (mark_rule (codes ")")) (c.in_ok-list.ensures.exact m (omega (arith, lt, c.in_ok-opening.ensures.shorter))) (on_last c.in_ok-closing.ensures.exact refl)))
