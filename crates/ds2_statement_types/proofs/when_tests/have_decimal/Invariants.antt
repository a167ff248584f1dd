use Rattle.std.proofs.Common.{◌≡◌, drop}
use Rattle.std.specs.Prelude.{◌||◌}
use Rattle.std.specs.List.{list_any}
use Rattle.ds2_tree.specs.ExpressionViews.{arguments_of}
use Rattle.ds2_elaboration.specs.ExpressionTypes.{TypeScope, elaborated_arguments}
use Rattle.ds2_reference_types.specs.Scopes.{IsScopeOf}
use Rattle.ds2_statement_types.proofs.TestForms.{is_decimal_test}
use Rattle.ds2_statement_types.proofs.when_tests.have_decimal.Given as goal

abbrev pub invariant-values : goal.invariant-values
invariant-values l =
    (types : TypeScope) → IsScopeOf types l.scope
    → (l.found || list_any is_decimal_test (elaborated_arguments types (arguments_of (drop l.a-index l.values)))) ≡ list_any is_decimal_test (elaborated_arguments types (arguments_of l.values))
