use Rattle.std.proofs.Common.{◌≡◌, codes, refl, sym, ◌∙◌, arith}
use Rattle.ds2_tree.specs.Parsers.{Read, One, Two, to, choose_by}
use Rattle.ds2_tree.specs.Promise.{Fails}
use Rattle.ds2_tree.specs.UnitViews.{package_tree, thread_tree, data_tree, part_tree}
use Rattle.ds2_parse_rules.specs.GrammarTokens.{starts}
use Rattle.ds2_parse_rules.specs.UnitGrammar.{package_rule, thread_rule, data_rule, part_of_kind}
use Rattle.ds2_parse_rules.proofs.RuleSteps.{exit, held, on_last, on_last_stop, on_yes, on_no}
use Rattle.ds2_source.proofs.units.unit.Goals as goal

pub returns-in_err-package-clause-exact : goal.returns-in_err-package-clause-exact
returns-in_err-package-clause-exact c m lt =
    exit c.args.end (λ x. (part_tree x.0, x.1.now)) c.from_residual.result c.in_err-package.field-0.0 (to (λ x. part_of_kind (Two (Two (Two x)))) (choose_by (starts (codes "package")) (to One (package_rule m c.args.levels)) (to Two (choose_by (starts (codes "thread")) (to One (thread_rule m c.args.levels)) (to Two (data_rule m c.args.levels))))) c.args.tokens.now) c.from_residual.ensures.1
    (held (Fails c.args.end c.in_err-package.field-0.0) (λ x. part_of_kind (Two (Two (Two x)))) (choose_by (starts (codes "package")) (to One (package_rule m c.args.levels)) (to Two (choose_by (starts (codes "thread")) (to One (thread_rule m c.args.levels)) (to Two (data_rule m c.args.levels))))) c.args.tokens.now (on_yes (starts (codes "package")) One (package_rule m c.args.levels) Two (choose_by (starts (codes "thread")) (to One (thread_rule m c.args.levels)) (to Two (data_rule m c.args.levels))) (sym c.starts_with.ensures ∙ c.if-starts_with.true) (on_last_stop c.args.end c.in_err-package.field-0.0 (c.in_err-package.ensures.exact m (omega (arith, lt))))))

pub returns-then-starts_with-clause-exact : goal.returns-then-starts_with-clause-exact
returns-then-starts_with-clause-exact c m lt =
    held (λ o. o ≡ Read (part_of_kind (Two (Two (Two (One (package_tree c.in_ok-package.package)))))) c.in_ok-package.rest.now) (λ x. part_of_kind (Two (Two (Two x)))) (choose_by (starts (codes "package")) (to One (package_rule m c.args.levels)) (to Two (choose_by (starts (codes "thread")) (to One (thread_rule m c.args.levels)) (to Two (data_rule m c.args.levels))))) c.args.tokens.now (on_yes (starts (codes "package")) One (package_rule m c.args.levels) Two (choose_by (starts (codes "thread")) (to One (thread_rule m c.args.levels)) (to Two (data_rule m c.args.levels))) (sym c.starts_with.ensures ∙ c.if-starts_with.true) (on_last (c.in_ok-package.ensures.exact m (omega (arith, lt))) refl))

pub returns-in_err-thread-clause-exact : goal.returns-in_err-thread-clause-exact
returns-in_err-thread-clause-exact c m lt =
    exit c.args.end (λ x. (part_tree x.0, x.1.now)) c.from_residual-in_err-thread.result c.in_err-thread.field-0.0 (to (λ x. part_of_kind (Two (Two (Two x)))) (choose_by (starts (codes "package")) (to One (package_rule m c.args.levels)) (to Two (choose_by (starts (codes "thread")) (to One (thread_rule m c.args.levels)) (to Two (data_rule m c.args.levels))))) c.args.tokens.now) c.from_residual-in_err-thread.ensures.1
    (held (Fails c.args.end c.in_err-thread.field-0.0) (λ x. part_of_kind (Two (Two (Two x)))) (choose_by (starts (codes "package")) (to One (package_rule m c.args.levels)) (to Two (choose_by (starts (codes "thread")) (to One (thread_rule m c.args.levels)) (to Two (data_rule m c.args.levels))))) c.args.tokens.now (on_no (starts (codes "package")) One (package_rule m c.args.levels) Two (choose_by (starts (codes "thread")) (to One (thread_rule m c.args.levels)) (to Two (data_rule m c.args.levels))) (sym c.starts_with.ensures ∙ c.if-starts_with.false) (on_yes (starts (codes "thread")) One (thread_rule m c.args.levels) Two (data_rule m c.args.levels) (sym c.starts_with-2.ensures ∙ c.if-starts_with-2.true) (on_last_stop c.args.end c.in_err-thread.field-0.0 (c.in_err-thread.ensures.exact m (omega (arith, lt)))))))

pub returns-then-starts_with-2-clause-exact : goal.returns-then-starts_with-2-clause-exact
returns-then-starts_with-2-clause-exact c m lt =
    held (λ o. o ≡ Read (part_of_kind (Two (Two (Two (Two (One (thread_tree c.in_ok-thread.thread))))))) c.in_ok-thread.rest.now) (λ x. part_of_kind (Two (Two (Two x)))) (choose_by (starts (codes "package")) (to One (package_rule m c.args.levels)) (to Two (choose_by (starts (codes "thread")) (to One (thread_rule m c.args.levels)) (to Two (data_rule m c.args.levels))))) c.args.tokens.now (on_no (starts (codes "package")) One (package_rule m c.args.levels) Two (choose_by (starts (codes "thread")) (to One (thread_rule m c.args.levels)) (to Two (data_rule m c.args.levels))) (sym c.starts_with.ensures ∙ c.if-starts_with.false) (on_yes (starts (codes "thread")) One (thread_rule m c.args.levels) Two (data_rule m c.args.levels) (sym c.starts_with-2.ensures ∙ c.if-starts_with-2.true) (on_last (c.in_ok-thread.ensures.exact m (omega (arith, lt))) refl)))

pub returns-in_err-program-clause-exact : goal.returns-in_err-program-clause-exact
returns-in_err-program-clause-exact c m lt =
    exit c.args.end (λ x. (part_tree x.0, x.1.now)) c.from_residual-in_err-program.result c.in_err-program.field-0.0 (to (λ x. part_of_kind (Two (Two (Two x)))) (choose_by (starts (codes "package")) (to One (package_rule m c.args.levels)) (to Two (choose_by (starts (codes "thread")) (to One (thread_rule m c.args.levels)) (to Two (data_rule m c.args.levels))))) c.args.tokens.now) c.from_residual-in_err-program.ensures.1
    (held (Fails c.args.end c.in_err-program.field-0.0) (λ x. part_of_kind (Two (Two (Two x)))) (choose_by (starts (codes "package")) (to One (package_rule m c.args.levels)) (to Two (choose_by (starts (codes "thread")) (to One (thread_rule m c.args.levels)) (to Two (data_rule m c.args.levels))))) c.args.tokens.now (on_no (starts (codes "package")) One (package_rule m c.args.levels) Two (choose_by (starts (codes "thread")) (to One (thread_rule m c.args.levels)) (to Two (data_rule m c.args.levels))) (sym c.starts_with.ensures ∙ c.if-starts_with.false) (on_no (starts (codes "thread")) One (thread_rule m c.args.levels) Two (data_rule m c.args.levels) (sym c.starts_with-2.ensures ∙ c.if-starts_with-2.false) (on_last_stop c.args.end c.in_err-program.field-0.0 (c.in_err-program.ensures.exact m (omega (arith, lt)))))))

pub returns-clause-exact : goal.returns-clause-exact
returns-clause-exact c m lt =
    held (λ o. o ≡ Read (part_of_kind (Two (Two (Two (Two (Two (data_tree c.in_ok-program.program))))))) c.in_ok-program.rest.now) (λ x. part_of_kind (Two (Two (Two x)))) (choose_by (starts (codes "package")) (to One (package_rule m c.args.levels)) (to Two (choose_by (starts (codes "thread")) (to One (thread_rule m c.args.levels)) (to Two (data_rule m c.args.levels))))) c.args.tokens.now (on_no (starts (codes "package")) One (package_rule m c.args.levels) Two (choose_by (starts (codes "thread")) (to One (thread_rule m c.args.levels)) (to Two (data_rule m c.args.levels))) (sym c.starts_with.ensures ∙ c.if-starts_with.false) (on_no (starts (codes "thread")) One (thread_rule m c.args.levels) Two (data_rule m c.args.levels) (sym c.starts_with-2.ensures ∙ c.if-starts_with-2.false) (on_last (c.in_ok-program.ensures.exact m (omega (arith, lt))) refl)))
