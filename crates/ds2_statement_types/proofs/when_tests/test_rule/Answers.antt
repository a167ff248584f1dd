use Rattle.std.proofs.Common.{◌≡◌, ◌||◌, Bool, false, Option, Some, None, Ok, refl, sym, ap, ◌∙◌, subst}
use Rattle.std.specs.Option.{option_map}
use Rattle.ds2_tree.specs.ExpressionViews.{expression_tree}
use Rattle.ds2_tree.specs.StatementViews.{selector_tree, whens_of}
use Rattle.ds2_tree.specs.Statements.{Selector}
use Rattle.ds2_tree.specs.declared.expressions.Expression as code
use Rattle.ds2_elaboration.specs.ExpressionTypes.{elaborated}
use Rattle.ds2_elaboration.specs.OperatorTypes.{is_known_decimal}
use Rattle.ds2_elaboration.specs.StatementTypes.{has_decimal_test}
use Rattle.ds2_elaboration.specs.Typings.{Typing}
use Rattle.ds2_types.specs.Judgements.{IsJudged}
use Rattle.ds2_statement_types.specs.TestRules.{IsTestRule}
use Rattle.ds2_statement_types.proofs.when_tests.test_rule.Goals as goal

pub returns-in-None : goal.returns-in-None
returns-in-None c = λ types s.
    subst (λ (o : Option Selector). IsTestRule types o (whens_of c.args.whens.now) (record { beside = None; decimals = false })) (sym (ap (option_map selector_tree) c.in-None.is)) (record { beside = refl; decimals = refl })

pub returns-in_ok-tests-in-Some : goal.returns-in_ok-tests-in-Some
returns-in_ok-tests-in-Some c = λ types s.
    let e = elaborated types (expression_tree c.in-Some.selector.value.value) in
    let judged = subst (λ (x : code.Expression). IsJudged (elaborated types (expression_tree x)) c.in_ok-x-in-Some.x) c.deref.ensures (c.in_ok-x-in-Some.ensures types s) in
    let known = c.is_known_decimal.ensures ∙ ap is_known_decimal judged.typing in
    subst (λ (o : Option Selector). IsTestRule types o (whens_of c.args.whens.now) (record { beside = Some c.in_ok-x-in-Some.x.typing; decimals = c.either_holds.result })) (sym (ap (option_map selector_tree) c.in-Some.is))
    (record {
      beside = ap (λ (t : Typing). Some t) judged.typing;
      decimals = c.either_holds.ensures ∙ ap (λ (b : Bool). b || c.in_ok-tests-in-Some.tests) known ∙ ap (λ (b : Bool). is_known_decimal e.typing || b) (c.in_ok-tests-in-Some.ensures types s);
    })
