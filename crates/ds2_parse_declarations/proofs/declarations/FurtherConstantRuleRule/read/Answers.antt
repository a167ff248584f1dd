use Rattle.std.proofs.Common.{◌≡◌, codes, Option, Some, refl, sym, subst}
use Rattle.ds2_tree.specs.Parsers.{to, seq}
use Rattle.ds2_tree.specs.Promise.{Gives}
use Rattle.ds2_parse_rules.specs.GrammarTokens.{mark_rule}
use Rattle.ds2_base.specs.declared.place.Place.{Place}
use Rattle.ds2_token.specs.declared.token.Token.{Token}
use Rattle.ds2_parse_rules.specs.GlobalGrammar.{constant_rule, constant_behind}
use Rattle.ds2_parse_rules.proofs.RuleSteps.{held, taken, on_read}
use Rattle.ds2_parse_declarations.proofs.declarations.FurtherConstantRuleRule.read.Goals as goal

pub returns-clause-exact : goal.returns-clause-exact
returns-clause-exact c m lt =
    subst (Gives c.args.end (λ x. (x.0, x.1.now)) c.constant.result)
    (sym (held (λ o. o ≡ to (constant_behind (Some c.in_ok-comma.comma)) constant_rule c.in_ok-comma.rest.now) (λ (x : Place × (Option Place × Token)). constant_behind (Some x.0) x.1) (seq (mark_rule (codes ",")) constant_rule) c.args.tokens.now (on_read (mark_rule (codes ",")) constant_rule c.in_ok-comma.ensures.exact (taken refl))))
    c.constant.ensures.exact
