use Rattle.std.proofs.Common.{◌≡◌, drop}
use Rattle.std.specs.Prelude.{◌||◌}
use Rattle.ds2_tree.specs.StatementViews.{whens_of}
use Rattle.ds2_elaboration.specs.ExpressionTypes.{TypeScope}
use Rattle.ds2_elaboration.specs.StatementTypes.{has_decimal_test}
use Rattle.ds2_reference_types.specs.Scopes.{IsScopeOf}
use Rattle.ds2_statement_types.proofs.when_tests.has_decimal_test.Given as goal

abbrev pub invariant-whens : goal.invariant-whens
invariant-whens l =
    (types : TypeScope) → IsScopeOf types l.scope → (l.found || has_decimal_test types (whens_of (drop l.w-index l.whens))) ≡ has_decimal_test types (whens_of l.whens)
