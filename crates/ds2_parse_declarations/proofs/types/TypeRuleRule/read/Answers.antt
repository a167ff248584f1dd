use Rattle.std.proofs.Common.{◌≡◌, codes, refl, sym, ◌∙◌, subst}
use Rattle.ds2_tree.specs.Parsers.{One, Two, to, choose_by}
use Rattle.ds2_tree.specs.Promise.{Gives}
use Rattle.ds2_tree.specs.Globals.{is_decimal_keyword}
use Rattle.ds2_parse_rules.specs.GrammarTokens.{word_rule, starts}
use Rattle.ds2_parse_rules.specs.GlobalGrammar.{decimal_type_rule, text_type_rule, type_of_kind}
use Rattle.ds2_parse_rules.proofs.RuleSteps.{held, taken, on_yes, on_no}
use Rattle.ds2_parse_declarations.proofs.types.TypeRuleRule.read.Goals as goal

pub returns-then-at-clause-exact : goal.returns-then-at-clause-exact
returns-then-at-clause-exact c m lt =
    subst (Gives c.args.end (λ x. (x.0, x.1.now)) c.decimal_type.result)
    (sym (held (λ o. o ≡ to (λ x. type_of_kind (Two (One x))) decimal_type_rule c.args.tokens.now) type_of_kind (choose_by (starts (codes "bigint")) (to One (word_rule (codes "bigint"))) (to Two (choose_by is_decimal_keyword (to One decimal_type_rule) (to Two text_type_rule)))) c.args.tokens.now
    (on_no (starts (codes "bigint")) One (word_rule (codes "bigint")) Two (choose_by is_decimal_keyword (to One decimal_type_rule) (to Two text_type_rule)) (sym c.starts_with.ensures ∙ c.if-starts_with.false) (on_yes is_decimal_keyword One decimal_type_rule Two text_type_rule (sym c.at.ensures ∙ c.if-at.true) (taken refl)))))
    c.decimal_type.ensures.exact

pub returns-clause-exact : goal.returns-clause-exact
returns-clause-exact c m lt =
    subst (Gives c.args.end (λ x. (x.0, x.1.now)) c.text_type.result)
    (sym (held (λ o. o ≡ to (λ x. type_of_kind (Two (Two x))) text_type_rule c.args.tokens.now) type_of_kind (choose_by (starts (codes "bigint")) (to One (word_rule (codes "bigint"))) (to Two (choose_by is_decimal_keyword (to One decimal_type_rule) (to Two text_type_rule)))) c.args.tokens.now
    (on_no (starts (codes "bigint")) One (word_rule (codes "bigint")) Two (choose_by is_decimal_keyword (to One decimal_type_rule) (to Two text_type_rule)) (sym c.starts_with.ensures ∙ c.if-starts_with.false) (on_no is_decimal_keyword One decimal_type_rule Two text_type_rule (sym c.at.ensures ∙ c.if-at.false) (taken refl)))))
    c.text_type.ensures.exact
