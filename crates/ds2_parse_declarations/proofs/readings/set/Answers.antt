use Rattle.std.proofs.Common.{◌≡◌, codes, refl, sym, ◌∙◌, subst, arith}
use Rattle.ds2_tree.specs.Parsers.{One, Two, to, seq, choose_by}
use Rattle.ds2_tree.specs.Promise.{Gives}
use Rattle.ds2_parse_rules.specs.GrammarTokens.{word_rule, starts}
use Rattle.ds2_parse_rules.specs.ReadingGrammar.{set_from_rule, set_tables_rule, reading_of_kind}
use Rattle.ds2_parse_rules.proofs.RuleSteps.{held, taken, on_read, on_yes, on_no}
use Rattle.ds2_parse_declarations.proofs.readings.set.Goals as goal

pub returns-then-starts_with-clause-exact : goal.returns-then-starts_with-clause-exact
returns-then-starts_with-clause-exact c m lt =
    subst (Gives c.args.end (λ x. (x.0, x.1.now)) c.set_from.result)
    (sym (held (λ o. o ≡ to (λ x. reading_of_kind (One (c.in_ok-keyword.keyword, One x))) set_from_rule c.in_ok-keyword.rest.now) (λ x. reading_of_kind (One x)) (seq (word_rule (codes "set")) (choose_by (starts (codes "from")) (to One set_from_rule) (to Two (set_tables_rule m)))) c.args.tokens.now (on_read (word_rule (codes "set")) (choose_by (starts (codes "from")) (to One set_from_rule) (to Two (set_tables_rule m))) c.in_ok-keyword.ensures.exact (on_yes (starts (codes "from")) One set_from_rule Two (set_tables_rule m) (sym c.starts_with.ensures ∙ c.if-starts_with.true) (taken refl)))))
    (c.set_from.ensures.exact m (omega (arith, lt, c.in_ok-keyword.ensures.shorter)))

pub returns-clause-exact : goal.returns-clause-exact
returns-clause-exact c m lt =
    subst (Gives c.args.end (λ x. (x.0, x.1.now)) c.set_tables.result)
    (sym (held (λ o. o ≡ to (λ x. reading_of_kind (One (c.in_ok-keyword.keyword, Two x))) (set_tables_rule m) c.in_ok-keyword.rest.now) (λ x. reading_of_kind (One x)) (seq (word_rule (codes "set")) (choose_by (starts (codes "from")) (to One set_from_rule) (to Two (set_tables_rule m)))) c.args.tokens.now (on_read (word_rule (codes "set")) (choose_by (starts (codes "from")) (to One set_from_rule) (to Two (set_tables_rule m))) c.in_ok-keyword.ensures.exact (on_no (starts (codes "from")) One set_from_rule Two (set_tables_rule m) (sym c.starts_with.ensures ∙ c.if-starts_with.false) (taken refl)))))
    (c.set_tables.ensures.exact m (omega (arith, lt, c.in_ok-keyword.ensures.shorter)))
