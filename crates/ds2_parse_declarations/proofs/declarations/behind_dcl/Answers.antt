use Rattle.std.proofs.Common.{◌≡◌, codes, refl, sym, ◌∙◌, subst, arith}
use Rattle.ds2_tree.specs.Parsers.{One, Two, to, seq, choose_by}
use Rattle.ds2_tree.specs.Promise.{Gives}
use Rattle.ds2_parse_rules.specs.GrammarTokens.{word_rule, starts}
use Rattle.ds2_parse_rules.specs.GlobalGrammar.{variables_tail, package_tail, thread_instance_rule, declaration_of}
use Rattle.ds2_parse_rules.proofs.RuleSteps.{held, taken, on_yes, on_no}
use Rattle.ds2_parse_declarations.proofs.declarations.behind_dcl.Goals as goal

pub returns-then-starts_with-clause-exact : goal.returns-then-starts_with-clause-exact
returns-then-starts_with-clause-exact c m lt =
    subst (Gives c.args.end (λ x. (x.0, x.1.now)) c.of_package.result)
    (sym (held (λ o. o ≡ to (λ x. declaration_of (c.args.keyword, One x)) (seq (word_rule (codes "package")) (package_tail m)) c.args.tokens.now) (λ x. declaration_of (c.args.keyword, x)) (choose_by (starts (codes "package")) (to One (seq (word_rule (codes "package")) (package_tail m))) (to Two (choose_by (starts (codes "thread")) (to One thread_instance_rule) (to Two (variables_tail m))))) c.args.tokens.now (on_yes (starts (codes "package")) One (seq (word_rule (codes "package")) (package_tail m)) Two (choose_by (starts (codes "thread")) (to One thread_instance_rule) (to Two (variables_tail m))) (sym c.starts_with.ensures ∙ c.if-starts_with.true) (taken refl))))
    (c.of_package.ensures.exact m (omega (arith, lt)))

pub returns-then-starts_with-2-clause-exact : goal.returns-then-starts_with-2-clause-exact
returns-then-starts_with-2-clause-exact c m lt =
    subst (Gives c.args.end (λ x. (x.0, x.1.now)) c.of_thread.result)
    (sym (held (λ o. o ≡ to (λ x. declaration_of (c.args.keyword, Two (One x))) thread_instance_rule c.args.tokens.now) (λ x. declaration_of (c.args.keyword, x)) (choose_by (starts (codes "package")) (to One (seq (word_rule (codes "package")) (package_tail m))) (to Two (choose_by (starts (codes "thread")) (to One thread_instance_rule) (to Two (variables_tail m))))) c.args.tokens.now (on_no (starts (codes "package")) One (seq (word_rule (codes "package")) (package_tail m)) Two (choose_by (starts (codes "thread")) (to One thread_instance_rule) (to Two (variables_tail m))) (sym c.starts_with.ensures ∙ c.if-starts_with.false) (on_yes (starts (codes "thread")) One thread_instance_rule Two (variables_tail m) (sym c.starts_with-2.ensures ∙ c.if-starts_with-2.true) (taken refl)))))
    (c.of_thread.ensures.exact m lt)

pub returns-clause-exact : goal.returns-clause-exact
returns-clause-exact c m lt =
    subst (Gives c.args.end (λ x. (x.0, x.1.now)) c.of_variables.result)
    (sym (held (λ o. o ≡ to (λ x. declaration_of (c.args.keyword, Two (Two x))) (variables_tail m) c.args.tokens.now) (λ x. declaration_of (c.args.keyword, x)) (choose_by (starts (codes "package")) (to One (seq (word_rule (codes "package")) (package_tail m))) (to Two (choose_by (starts (codes "thread")) (to One thread_instance_rule) (to Two (variables_tail m))))) c.args.tokens.now (on_no (starts (codes "package")) One (seq (word_rule (codes "package")) (package_tail m)) Two (choose_by (starts (codes "thread")) (to One thread_instance_rule) (to Two (variables_tail m))) (sym c.starts_with.ensures ∙ c.if-starts_with.false) (on_no (starts (codes "thread")) One thread_instance_rule Two (variables_tail m) (sym c.starts_with-2.ensures ∙ c.if-starts_with-2.false) (taken refl)))))
    (c.of_variables.ensures.exact m (omega (arith, lt)))
