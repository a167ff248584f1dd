use Rattle.std.proofs.Common.{◌≡◌, codes, Some, refl, sym, subst}
use Rattle.ds2_tree.specs.Parsers.{to, seq}
use Rattle.ds2_tree.specs.Promise.{Gives}
use Rattle.ds2_parse_rules.specs.GrammarTokens.{mark_rule}
use Rattle.ds2_base.specs.declared.place.Place.{Place}
use Rattle.ds2_parse_rules.specs.GlobalGrammar.{ParameterTree, parameter_rule, parameter_behind}
use Rattle.ds2_parse_rules.proofs.RuleSteps.{held, taken, on_read}
use Rattle.ds2_parse_declarations.proofs.parameters.FurtherParameterRuleRule.read.Goals as goal

pub returns-clause-exact : goal.returns-clause-exact
returns-clause-exact c m lt =
    subst (Gives c.args.end (λ x. (x.0, x.1.now)) c.parameter.result)
    (sym (held (λ o. o ≡ to (parameter_behind (Some c.in_ok-comma.comma)) parameter_rule c.in_ok-comma.rest.now) (λ (x : Place × ParameterTree). parameter_behind (Some x.0) x.1) (seq (mark_rule (codes ",")) parameter_rule) c.args.tokens.now (on_read (mark_rule (codes ",")) parameter_rule c.in_ok-comma.ensures.exact (taken refl))))
    c.parameter.ensures.exact
