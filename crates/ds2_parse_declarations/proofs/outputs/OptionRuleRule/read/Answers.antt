use Rattle.std.proofs.Common.{◌≡◌, codes, refl, sym, ◌∙◌, subst}
use Rattle.ds2_tree.specs.Parsers.{One, Two, to, choose_by}
use Rattle.ds2_tree.specs.Promise.{Gives}
use Rattle.ds2_tree.specs.Units.{is_kept_or_dropped}
use Rattle.ds2_parse_rules.specs.GrammarTokens.{starts}
use Rattle.ds2_parse_rules.specs.UnitGrammar.{kept_option_rule, overwrite_rule, rename_rule, option_of_kind}
use Rattle.ds2_parse_rules.proofs.RuleSteps.{held, taken, on_yes, on_no}
use Rattle.ds2_parse_declarations.proofs.outputs.OptionRuleRule.read.Goals as goal

pub returns-then-at-clause-exact : goal.returns-then-at-clause-exact
returns-then-at-clause-exact c m lt =
    subst (Gives c.args.end (λ x. (x.0, x.1.now)) c.kept_option.result)
    (sym (held (λ o. o ≡ to (λ x. option_of_kind (One x)) (kept_option_rule m) c.args.tokens.now) option_of_kind (choose_by is_kept_or_dropped (to One (kept_option_rule m)) (to Two (choose_by (starts (codes "overwrite")) (to One overwrite_rule) (to Two (rename_rule m))))) c.args.tokens.now
    (on_yes is_kept_or_dropped One (kept_option_rule m) Two (choose_by (starts (codes "overwrite")) (to One overwrite_rule) (to Two (rename_rule m))) (sym c.at.ensures ∙ c.if-at.true) (taken refl))))
    (c.kept_option.ensures.exact m lt)

pub returns-then-starts_with-clause-exact : goal.returns-then-starts_with-clause-exact
returns-then-starts_with-clause-exact c m lt =
    subst (Gives c.args.end (λ x. (x.0, x.1.now)) c.overwrite.result)
    (sym (held (λ o. o ≡ to (λ x. option_of_kind (Two (One x))) overwrite_rule c.args.tokens.now) option_of_kind (choose_by is_kept_or_dropped (to One (kept_option_rule m)) (to Two (choose_by (starts (codes "overwrite")) (to One overwrite_rule) (to Two (rename_rule m))))) c.args.tokens.now
    (on_no is_kept_or_dropped One (kept_option_rule m) Two (choose_by (starts (codes "overwrite")) (to One overwrite_rule) (to Two (rename_rule m))) (sym c.at.ensures ∙ c.if-at.false) (on_yes (starts (codes "overwrite")) One overwrite_rule Two (rename_rule m) (sym c.starts_with.ensures ∙ c.if-starts_with.true) (taken refl)))))
    (c.overwrite.ensures.exact m lt)

pub returns-clause-exact : goal.returns-clause-exact
returns-clause-exact c m lt =
    subst (Gives c.args.end (λ x. (x.0, x.1.now)) c.rename.result)
    (sym (held (λ o. o ≡ to (λ x. option_of_kind (Two (Two x))) (rename_rule m) c.args.tokens.now) option_of_kind (choose_by is_kept_or_dropped (to One (kept_option_rule m)) (to Two (choose_by (starts (codes "overwrite")) (to One overwrite_rule) (to Two (rename_rule m))))) c.args.tokens.now
    (on_no is_kept_or_dropped One (kept_option_rule m) Two (choose_by (starts (codes "overwrite")) (to One overwrite_rule) (to Two (rename_rule m))) (sym c.at.ensures ∙ c.if-at.false) (on_no (starts (codes "overwrite")) One overwrite_rule Two (rename_rule m) (sym c.starts_with.ensures ∙ c.if-starts_with.false) (taken refl)))))
    (c.rename.ensures.exact m lt)
