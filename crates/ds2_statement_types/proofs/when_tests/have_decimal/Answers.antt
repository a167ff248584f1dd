use Rattle.std.proofs.Common.{Bool, ◌+◌, ◌||◌, drop, refl, sym, ap, ◌∙◌, arith}
use Rattle.std.specs.List.{list_any}
use Rattle.ds2_tree.specs.ExpressionViews.{arguments_of}
use Rattle.ds2_elaboration.specs.ExpressionTypes.{elaborated_arguments}
use Rattle.ds2_elaboration.specs.OperatorTypes.{is_known_decimal}
use Rattle.ds2_statement_types.proofs.TestForms.{is_decimal_test, one_test, no_test_left}
use Rattle.ds2_statement_types.proofs.when_tests.have_decimal.Goals as goal

pub values-init : goal.values-init
values-init c = λ types s. refl

pub values-preserved : goal.values-preserved
values-preserved c = λ types s.
    let i = c.values.a-index in
    let all = c.args.values.now in
    let known = c.is_known_decimal.ensures ∙ ap is_known_decimal (c.in_ok-x.ensures types s).typing in
    ap (λ (b : Bool). b || list_any is_decimal_test (elaborated_arguments types (arguments_of (drop (i + 1) all))))
    (c.either_holds-found.ensures ∙ ap (λ (b : Bool). c.values.found || b) known)
    ∙ one_test types all i c.a-item.result c.values.found (omega arith) c.a-item.is ∙ c.values.invariant types s

pub returns : goal.returns
returns c = λ types s. sym (no_test_left types c.args.values.now c.values.a-index c.values.found (omega arith)) ∙ c.values.invariant types s
