use Rattle.std.proofs.Common.{take}
use Rattle.ds2_meaning.specs.View.{typed_expression}
use Rattle.ds2_tree.specs.declared.expressions.Argument.{Argument}
use Rattle.ds2_elaboration.specs.ExpressionTypes.{TypeScope}
use Rattle.ds2_elaboration.specs.StatementTypes.{selected_node}
use Rattle.ds2_reference_types.specs.ArgumentTrees.{argument_in}
use Rattle.ds2_reference_types.specs.Scopes.{IsScopeOf}
use Rattle.ds2_statement_types.specs.TestRules.{test_rule}
use Rattle.ds2_simple_statement_types.proofs.PartLists.{AreParts}
use Rattle.ds2_statement_types.proofs.when_tests.tests.Given as goal

abbrev pub invariant-values : goal.invariant-values
invariant-values l =
    (types : TypeScope) → IsScopeOf types l.scope
    → AreParts typed_expression (λ (a : Argument). test_rule l.rule.beside (argument_in types a))
    (λ (a : Argument). selected_node types l.rule.decimals (argument_in types a).value.node) (take l.a-index l.values) l.all
