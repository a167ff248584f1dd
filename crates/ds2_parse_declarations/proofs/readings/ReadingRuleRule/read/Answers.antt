use Rattle.std.proofs.Common.{◌≡◌, codes, refl, sym, ◌∙◌, subst, arith}
use Rattle.ds2_tree.specs.Parsers.{One, Two, to, choose_by}
use Rattle.ds2_tree.specs.Promise.{Gives}
use Rattle.ds2_parse_rules.specs.GrammarTokens.{starts}
use Rattle.ds2_parse_rules.specs.ReadingGrammar.{merge_rule, reading_of_kind, set_rule}
use Rattle.ds2_parse_rules.proofs.RuleSteps.{held, taken, on_yes, on_no}
use Rattle.ds2_parse_declarations.proofs.readings.ReadingRuleRule.read.Goals as goal

pub returns-then-starts_with-clause-exact : goal.returns-then-starts_with-clause-exact
returns-then-starts_with-clause-exact c m lt =
    subst (Gives c.args.end (λ x. (x.0, x.1.now)) c.set.result)
    (sym (held (λ o. o ≡ to (λ x. reading_of_kind (One x)) (set_rule m) c.args.tokens.now) reading_of_kind (choose_by (starts (codes "set")) (to One (set_rule m)) (to Two (merge_rule m))) c.args.tokens.now (on_yes (starts (codes "set")) One (set_rule m) Two (merge_rule m) (sym c.starts_with.ensures ∙ c.if-starts_with.true) (taken refl))))
    (c.set.ensures.exact m (omega (arith, lt)))

pub returns-clause-exact : goal.returns-clause-exact
returns-clause-exact c m lt =
    subst (Gives c.args.end (λ x. (x.0, x.1.now)) c.merge.result)
    (sym (held (λ o. o ≡ to (λ x. reading_of_kind (Two x)) (merge_rule m) c.args.tokens.now) reading_of_kind (choose_by (starts (codes "set")) (to One (set_rule m)) (to Two (merge_rule m))) c.args.tokens.now (on_no (starts (codes "set")) One (set_rule m) Two (merge_rule m) (sym c.starts_with.ensures ∙ c.if-starts_with.false) (taken refl))))
    (c.merge.ensures.exact m (omega (arith, lt)))
