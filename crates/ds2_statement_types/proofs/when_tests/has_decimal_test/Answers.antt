use Rattle.std.proofs.Common.{Bool, List, ◌+◌, ◌≡◌, ◌||◌, drop, refl, sym, ap, ◌∙◌, subst, arith}
use Rattle.std.specs.List.{list_any}
use Rattle.ds2_tree.specs.ExpressionViews.{arguments_of}
use Rattle.ds2_tree.specs.StatementViews.{whens_of}
use Rattle.ds2_tree.specs.declared.expressions.Argument.{Argument}
use Rattle.ds2_elaboration.specs.ExpressionTypes.{elaborated_arguments}
use Rattle.ds2_elaboration.specs.StatementTypes.{has_decimal_test}
use Rattle.ds2_statement_types.proofs.TestForms.{is_decimal_test, one_when, no_when_left}
use Rattle.ds2_statement_types.proofs.when_tests.has_decimal_test.Goals as goal

pub whens-init : goal.whens-init
whens-init c = λ types s. refl

pub whens-preserved : goal.whens-preserved
whens-preserved c = λ types s.
    let i = c.whens.w-index in
    let all = c.args.whens.now in
    let own = c.in_ok-own.ensures types s ∙ ap (λ (as' : List Argument). list_any is_decimal_test (elaborated_arguments types (arguments_of as'))) c.as_slice.ensures in
    ap (λ (b : Bool). b || has_decimal_test types (whens_of (drop (i + 1) all))) c.either_holds-found.ensures
    ∙ one_when types all i c.w-item.result c.whens.found c.in_ok-own.own (omega arith) c.w-item.is own ∙ c.whens.invariant types s

pub returns : goal.returns
returns c = λ types s. sym (no_when_left types c.args.whens.now c.whens.w-index c.whens.found (omega arith)) ∙ c.whens.invariant types s
