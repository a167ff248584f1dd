use Rattle.std.proofs.Common.{◌≡◌, codes, refl, sym, ◌∙◌, subst, arith}
use Rattle.ds2_tree.specs.Parsers.{One, Two, to, choose_by}
use Rattle.ds2_tree.specs.Promise.{Gives}
use Rattle.ds2_parse_rules.specs.GrammarTokens.{starts}
use Rattle.ds2_parse_rules.specs.GlobalGrammar.{hash_rule, hiter_rule, instance_rule, package_declaration}
use Rattle.ds2_parse_rules.proofs.RuleSteps.{held, taken, on_yes, on_no}
use Rattle.ds2_parse_declarations.proofs.declarations.behind_package.Goals as goal

pub returns-then-starts_with-clause-exact : goal.returns-then-starts_with-clause-exact
returns-then-starts_with-clause-exact c m lt =
    subst (Gives c.args.end (λ x. (x.0, x.1.now)) c.hash.result)
    (sym (held (λ o. o ≡ to (λ x. package_declaration c.args.keyword c.args.package_keyword (One x)) (hash_rule m) c.args.tokens.now) (λ x. package_declaration c.args.keyword c.args.package_keyword x) (choose_by (starts (codes "hash")) (to One (hash_rule m)) (to Two (choose_by (starts (codes "hiter")) (to One hiter_rule) (to Two (instance_rule m))))) c.args.tokens.now (on_yes (starts (codes "hash")) One (hash_rule m) Two (choose_by (starts (codes "hiter")) (to One hiter_rule) (to Two (instance_rule m))) (sym c.starts_with.ensures ∙ c.if-starts_with.true) (taken refl))))
    (c.hash.ensures.exact m (omega (arith, lt)))

pub returns-then-starts_with-2-clause-exact : goal.returns-then-starts_with-2-clause-exact
returns-then-starts_with-2-clause-exact c m lt =
    subst (Gives c.args.end (λ x. (x.0, x.1.now)) c.hiter.result)
    (sym (held (λ o. o ≡ to (λ x. package_declaration c.args.keyword c.args.package_keyword (Two (One x))) hiter_rule c.args.tokens.now) (λ x. package_declaration c.args.keyword c.args.package_keyword x) (choose_by (starts (codes "hash")) (to One (hash_rule m)) (to Two (choose_by (starts (codes "hiter")) (to One hiter_rule) (to Two (instance_rule m))))) c.args.tokens.now (on_no (starts (codes "hash")) One (hash_rule m) Two (choose_by (starts (codes "hiter")) (to One hiter_rule) (to Two (instance_rule m))) (sym c.starts_with.ensures ∙ c.if-starts_with.false) (on_yes (starts (codes "hiter")) One hiter_rule Two (instance_rule m) (sym c.starts_with-2.ensures ∙ c.if-starts_with-2.true) (taken refl)))))
    (c.hiter.ensures.exact m lt)

pub returns-clause-exact : goal.returns-clause-exact
returns-clause-exact c m lt =
    subst (Gives c.args.end (λ x. (x.0, x.1.now)) c.instance.result)
    (sym (held (λ o. o ≡ to (λ x. package_declaration c.args.keyword c.args.package_keyword (Two (Two x))) (instance_rule m) c.args.tokens.now) (λ x. package_declaration c.args.keyword c.args.package_keyword x) (choose_by (starts (codes "hash")) (to One (hash_rule m)) (to Two (choose_by (starts (codes "hiter")) (to One hiter_rule) (to Two (instance_rule m))))) c.args.tokens.now (on_no (starts (codes "hash")) One (hash_rule m) Two (choose_by (starts (codes "hiter")) (to One hiter_rule) (to Two (instance_rule m))) (sym c.starts_with.ensures ∙ c.if-starts_with.false) (on_no (starts (codes "hiter")) One hiter_rule Two (instance_rule m) (sym c.starts_with-2.ensures ∙ c.if-starts_with-2.false) (taken refl)))))
    (c.instance.ensures.exact m (omega (arith, lt)))
