use Rattle.std.proofs.Common.{map, ap, ◌∙◌}
use Rattle.ds2_elaboration.specs.SourceTypes.{declared_variables}
use Rattle.ds2_names.specs.SourceUnit.{source_methods, variable_declarations}
use Rattle.ds2_tree.specs.UnitViews.{global_tree, package_tree}
use Rattle.ds2_program_types.proofs.packages.package_of.Goals as goal

pub returns : goal.returns
returns c = λ tables before a k. λ i. record {
  name = c.in_ok-name.ensures i;
  sources = source_methods (package_tree c.args.source.now).globals;
  variables = (c.in_ok-variables.ensures ∙ ap (λ gs. declared_variables (variable_declarations (map global_tree gs))) c.as_slice.ensures) i;
  objects = record { hashes = a.hashes i; iterators = a.iterators i };
  methods = k i;
}
