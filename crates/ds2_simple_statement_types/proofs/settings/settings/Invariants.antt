use Rattle.std.proofs.Common.{◌≡◌, List, map, drop}
use Rattle.ds2_elaboration.specs.ExpressionTypes.{TypeScope, elaborated_arguments, values_for}
use Rattle.ds2_reference_types.specs.Scopes.{IsScopeOf, value_parameter}
use Rattle.ds2_meaning.specs.declared.globals.Variable.{Variable}
use Rattle.ds2_tree.specs.ExpressionViews.{arguments_of}
use Rattle.ds2_simple_statement_types.proofs.SettingForms.{HasSet}
use Rattle.ds2_simple_statement_types.proofs.settings.settings.Given as goal

abbrev pub invariant-arguments : goal.invariant-arguments
invariant-arguments l =
    (types : TypeScope) (variables : List Variable) → IsScopeOf types l.scope → l.parameters ≡ map value_parameter variables
    → HasSet l.name (values_for l.name variables (elaborated_arguments types (arguments_of l.arguments))) l.left (elaborated_arguments types (arguments_of (drop l.argument-index l.arguments)))
    l.so_far
