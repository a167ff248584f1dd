use Rattle.std.proofs.Common.{◌≡◌, codes, refl, sym, ◌∙◌, subst, arith}
use Rattle.ds2_tree.specs.Parsers.{One, Two, to, seq, choose_by}
use Rattle.ds2_tree.specs.Promise.{Gives}
use Rattle.ds2_tree.specs.UnitViews.{part_tree}
use Rattle.ds2_parse_rules.specs.GrammarTokens.{mark_rule, word_rule, starts}
use Rattle.ds2_parse_rules.specs.UnitGrammar.{unit_rule, part_of_kind}
use Rattle.ds2_parse_rules.proofs.RuleSteps.{held, taken, on_yes, on_no}
use Rattle.ds2_source.proofs.units.any_part.Goals as goal

pub returns-then-starts_with-clause-exact : goal.returns-then-starts_with-clause-exact
returns-then-starts_with-clause-exact c m lt =
    subst (Gives c.args.end (λ x. (part_tree x.0, x.1.now)) c.proc.result)
    (sym (held (λ o. o ≡ to (λ x. part_of_kind (One x)) (seq (word_rule (codes "proc")) (seq (word_rule (codes "ds2")) (mark_rule (codes ";")))) c.args.tokens.now) part_of_kind (choose_by (starts (codes "proc")) (to One (seq (word_rule (codes "proc")) (seq (word_rule (codes "ds2")) (mark_rule (codes ";"))))) (to Two (choose_by (starts (codes "run")) (to One (seq (word_rule (codes "run")) (mark_rule (codes ";")))) (to Two (choose_by (starts (codes "quit")) (to One (seq (word_rule (codes "quit")) (mark_rule (codes ";")))) (to Two (unit_rule m c.args.levels))))))) c.args.tokens.now (on_yes (starts (codes "proc")) One (seq (word_rule (codes "proc")) (seq (word_rule (codes "ds2")) (mark_rule (codes ";")))) Two (choose_by (starts (codes "run")) (to One (seq (word_rule (codes "run")) (mark_rule (codes ";")))) (to Two (choose_by (starts (codes "quit")) (to One (seq (word_rule (codes "quit")) (mark_rule (codes ";")))) (to Two (unit_rule m c.args.levels))))) (sym c.starts_with.ensures ∙ c.if-starts_with.true) (taken refl))))
    c.proc.ensures.exact

pub returns-then-starts_with-2-clause-exact : goal.returns-then-starts_with-2-clause-exact
returns-then-starts_with-2-clause-exact c m lt =
    subst (Gives c.args.end (λ x. (part_tree x.0, x.1.now)) c.run.result)
    (sym (held (λ o. o ≡ to (λ x. part_of_kind (Two (One x))) (seq (word_rule (codes "run")) (mark_rule (codes ";"))) c.args.tokens.now) part_of_kind (choose_by (starts (codes "proc")) (to One (seq (word_rule (codes "proc")) (seq (word_rule (codes "ds2")) (mark_rule (codes ";"))))) (to Two (choose_by (starts (codes "run")) (to One (seq (word_rule (codes "run")) (mark_rule (codes ";")))) (to Two (choose_by (starts (codes "quit")) (to One (seq (word_rule (codes "quit")) (mark_rule (codes ";")))) (to Two (unit_rule m c.args.levels))))))) c.args.tokens.now (on_no (starts (codes "proc")) One (seq (word_rule (codes "proc")) (seq (word_rule (codes "ds2")) (mark_rule (codes ";")))) Two (choose_by (starts (codes "run")) (to One (seq (word_rule (codes "run")) (mark_rule (codes ";")))) (to Two (choose_by (starts (codes "quit")) (to One (seq (word_rule (codes "quit")) (mark_rule (codes ";")))) (to Two (unit_rule m c.args.levels))))) (sym c.starts_with.ensures ∙ c.if-starts_with.false) (on_yes (starts (codes "run")) One (seq (word_rule (codes "run")) (mark_rule (codes ";"))) Two (choose_by (starts (codes "quit")) (to One (seq (word_rule (codes "quit")) (mark_rule (codes ";")))) (to Two (unit_rule m c.args.levels))) (sym c.starts_with-2.ensures ∙ c.if-starts_with-2.true) (taken refl)))))
    c.run.ensures.exact

pub returns-then-starts_with-3-clause-exact : goal.returns-then-starts_with-3-clause-exact
returns-then-starts_with-3-clause-exact c m lt =
    subst (Gives c.args.end (λ x. (part_tree x.0, x.1.now)) c.quit.result)
    (sym (held (λ o. o ≡ to (λ x. part_of_kind (Two (Two (One x)))) (seq (word_rule (codes "quit")) (mark_rule (codes ";"))) c.args.tokens.now) part_of_kind (choose_by (starts (codes "proc")) (to One (seq (word_rule (codes "proc")) (seq (word_rule (codes "ds2")) (mark_rule (codes ";"))))) (to Two (choose_by (starts (codes "run")) (to One (seq (word_rule (codes "run")) (mark_rule (codes ";")))) (to Two (choose_by (starts (codes "quit")) (to One (seq (word_rule (codes "quit")) (mark_rule (codes ";")))) (to Two (unit_rule m c.args.levels))))))) c.args.tokens.now (on_no (starts (codes "proc")) One (seq (word_rule (codes "proc")) (seq (word_rule (codes "ds2")) (mark_rule (codes ";")))) Two (choose_by (starts (codes "run")) (to One (seq (word_rule (codes "run")) (mark_rule (codes ";")))) (to Two (choose_by (starts (codes "quit")) (to One (seq (word_rule (codes "quit")) (mark_rule (codes ";")))) (to Two (unit_rule m c.args.levels))))) (sym c.starts_with.ensures ∙ c.if-starts_with.false) (on_no (starts (codes "run")) One (seq (word_rule (codes "run")) (mark_rule (codes ";"))) Two (choose_by (starts (codes "quit")) (to One (seq (word_rule (codes "quit")) (mark_rule (codes ";")))) (to Two (unit_rule m c.args.levels))) (sym c.starts_with-2.ensures ∙ c.if-starts_with-2.false) (on_yes (starts (codes "quit")) One (seq (word_rule (codes "quit")) (mark_rule (codes ";"))) Two (unit_rule m c.args.levels) (sym c.starts_with-3.ensures ∙ c.if-starts_with-3.true) (taken refl))))))
    c.quit.ensures.exact

pub returns-clause-exact : goal.returns-clause-exact
returns-clause-exact c m lt =
    subst (Gives c.args.end (λ x. (part_tree x.0, x.1.now)) c.unit.result)
    (sym (held (λ o. o ≡ to (λ x. part_of_kind (Two (Two (Two x)))) (unit_rule m c.args.levels) c.args.tokens.now) part_of_kind (choose_by (starts (codes "proc")) (to One (seq (word_rule (codes "proc")) (seq (word_rule (codes "ds2")) (mark_rule (codes ";"))))) (to Two (choose_by (starts (codes "run")) (to One (seq (word_rule (codes "run")) (mark_rule (codes ";")))) (to Two (choose_by (starts (codes "quit")) (to One (seq (word_rule (codes "quit")) (mark_rule (codes ";")))) (to Two (unit_rule m c.args.levels))))))) c.args.tokens.now (on_no (starts (codes "proc")) One (seq (word_rule (codes "proc")) (seq (word_rule (codes "ds2")) (mark_rule (codes ";")))) Two (choose_by (starts (codes "run")) (to One (seq (word_rule (codes "run")) (mark_rule (codes ";")))) (to Two (choose_by (starts (codes "quit")) (to One (seq (word_rule (codes "quit")) (mark_rule (codes ";")))) (to Two (unit_rule m c.args.levels))))) (sym c.starts_with.ensures ∙ c.if-starts_with.false) (on_no (starts (codes "run")) One (seq (word_rule (codes "run")) (mark_rule (codes ";"))) Two (choose_by (starts (codes "quit")) (to One (seq (word_rule (codes "quit")) (mark_rule (codes ";")))) (to Two (unit_rule m c.args.levels))) (sym c.starts_with-2.ensures ∙ c.if-starts_with-2.false) (on_no (starts (codes "quit")) One (seq (word_rule (codes "quit")) (mark_rule (codes ";"))) Two (unit_rule m c.args.levels) (sym c.starts_with-3.ensures ∙ c.if-starts_with-3.false) (taken refl))))))
    (c.unit.ensures.exact m (omega (arith, lt)))
