use Rattle.std.proofs.Common.{◌≡◌, refl, sym, ◌∙◌, subst, arith}
use Rattle.ds2_tree.specs.Parsers.{Read, One, Two, to, choose_by}
use Rattle.ds2_tree.specs.Promise.{Fails, Gives}
use Rattle.ds2_tree.specs.Globals.{is_dcl, is_list_keyword}
use Rattle.ds2_tree.specs.UnitViews.{method_tree, global_tree}
use Rattle.ds2_parse_rules.specs.GlobalGrammar.{declaration_rule, method_rule, listed_rule, global_of_kind}
use Rattle.ds2_parse_rules.proofs.RuleSteps.{exit, held, taken, on_last, on_last_stop, on_yes, on_no}
use Rattle.ds2_source.proofs.globals.any_global.Goals as goal

pub returns-in_err-declaration-clause-exact : goal.returns-in_err-declaration-clause-exact
returns-in_err-declaration-clause-exact c m lt =
    exit c.args.end (λ x. (global_tree x.0, x.1.now)) c.from_residual.result c.in_err-declaration.field-0.0 (to global_of_kind (choose_by is_dcl (to One (declaration_rule m)) (to Two (choose_by is_list_keyword (to One (listed_rule m)) (to Two (method_rule m c.args.levels))))) c.args.tokens.now) c.from_residual.ensures.1
    (held (Fails c.args.end c.in_err-declaration.field-0.0) global_of_kind (choose_by is_dcl (to One (declaration_rule m)) (to Two (choose_by is_list_keyword (to One (listed_rule m)) (to Two (method_rule m c.args.levels))))) c.args.tokens.now (on_yes is_dcl One (declaration_rule m) Two (choose_by is_list_keyword (to One (listed_rule m)) (to Two (method_rule m c.args.levels))) (sym c.at.ensures ∙ c.if-at.true) (on_last_stop c.args.end c.in_err-declaration.field-0.0 (c.in_err-declaration.ensures.exact m (omega (arith, lt))))))

pub returns-then-at-clause-exact : goal.returns-then-at-clause-exact
returns-then-at-clause-exact c m lt =
    held (λ o. o ≡ Read (global_of_kind (One c.in_ok-declaration.declaration)) c.in_ok-declaration.rest.now) global_of_kind (choose_by is_dcl (to One (declaration_rule m)) (to Two (choose_by is_list_keyword (to One (listed_rule m)) (to Two (method_rule m c.args.levels))))) c.args.tokens.now (on_yes is_dcl One (declaration_rule m) Two (choose_by is_list_keyword (to One (listed_rule m)) (to Two (method_rule m c.args.levels))) (sym c.at.ensures ∙ c.if-at.true) (on_last (c.in_ok-declaration.ensures.exact m (omega (arith, lt))) refl))

pub returns-then-at-2-clause-exact : goal.returns-then-at-2-clause-exact
returns-then-at-2-clause-exact c m lt =
    subst (Gives c.args.end (λ x. (global_tree x.0, x.1.now)) c.listed.result)
    (sym (held (λ o. o ≡ to (λ x. global_of_kind (Two (One x))) (listed_rule m) c.args.tokens.now) global_of_kind (choose_by is_dcl (to One (declaration_rule m)) (to Two (choose_by is_list_keyword (to One (listed_rule m)) (to Two (method_rule m c.args.levels))))) c.args.tokens.now (on_no is_dcl One (declaration_rule m) Two (choose_by is_list_keyword (to One (listed_rule m)) (to Two (method_rule m c.args.levels))) (sym c.at.ensures ∙ c.if-at.false) (on_yes is_list_keyword One (listed_rule m) Two (method_rule m c.args.levels) (sym c.at-2.ensures ∙ c.if-at-2.true) (taken refl)))))
    (c.listed.ensures.exact m (omega (arith, lt)))

pub returns-in_err-method-clause-exact : goal.returns-in_err-method-clause-exact
returns-in_err-method-clause-exact c m lt =
    exit c.args.end (λ x. (global_tree x.0, x.1.now)) c.from_residual-in_err-method.result c.in_err-method.field-0.0 (to global_of_kind (choose_by is_dcl (to One (declaration_rule m)) (to Two (choose_by is_list_keyword (to One (listed_rule m)) (to Two (method_rule m c.args.levels))))) c.args.tokens.now) c.from_residual-in_err-method.ensures.1
    (held (Fails c.args.end c.in_err-method.field-0.0) global_of_kind (choose_by is_dcl (to One (declaration_rule m)) (to Two (choose_by is_list_keyword (to One (listed_rule m)) (to Two (method_rule m c.args.levels))))) c.args.tokens.now (on_no is_dcl One (declaration_rule m) Two (choose_by is_list_keyword (to One (listed_rule m)) (to Two (method_rule m c.args.levels))) (sym c.at.ensures ∙ c.if-at.false) (on_no is_list_keyword One (listed_rule m) Two (method_rule m c.args.levels) (sym c.at-2.ensures ∙ c.if-at-2.false) (on_last_stop c.args.end c.in_err-method.field-0.0 (c.in_err-method.ensures.exact m (omega (arith, lt)))))))

pub returns-clause-exact : goal.returns-clause-exact
returns-clause-exact c m lt =
    held (λ o. o ≡ Read (global_of_kind (Two (Two (method_tree c.in_ok-method.method)))) c.in_ok-method.rest.now) global_of_kind (choose_by is_dcl (to One (declaration_rule m)) (to Two (choose_by is_list_keyword (to One (listed_rule m)) (to Two (method_rule m c.args.levels))))) c.args.tokens.now (on_no is_dcl One (declaration_rule m) Two (choose_by is_list_keyword (to One (listed_rule m)) (to Two (method_rule m c.args.levels))) (sym c.at.ensures ∙ c.if-at.false) (on_no is_list_keyword One (listed_rule m) Two (method_rule m c.args.levels) (sym c.at-2.ensures ∙ c.if-at-2.false) (on_last (c.in_ok-method.ensures.exact m (omega (arith, lt))) refl)))
