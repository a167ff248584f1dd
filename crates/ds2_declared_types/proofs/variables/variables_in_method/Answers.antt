use Rattle.std.proofs.Common.{◌++◌, sym, ap, ◌∙◌}
use Rattle.std.specs.Prelude.{map}
use Rattle.ds2_tree.specs.UnitViews.{method_tree}
use Rattle.ds2_elaboration.specs.SourceTypes.{declared_variables}
use Rattle.ds2_declared_types.specs.Joins.{variable_of_parameter}
use Rattle.ds2_declared_types.proofs.VariableForms.{with_parameters}
use Rattle.ds2_declared_types.proofs.variables.variables_in_method.Goals as goal

pub returns : goal.returns
returns c =
    c.in_ok-push_declarations.ensures
    ∙ (λ i. (c.in_ok-variables.ensures ∙ ap (map variable_of_parameter) c.as_slice.ensures) i ++ declared_variables (c.as_slice-2.ensures i))
    ∙ sym (with_parameters (method_tree c.args.m.now))
