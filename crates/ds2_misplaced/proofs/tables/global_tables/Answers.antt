use Rattle.std.proofs.Common.{ap, ◌∙◌}
use Rattle.ds2_meaning.specs.ProgramTree.{is_listed}
use Rattle.ds2_names.specs.SourceUnit.{names_alone}
use Rattle.ds2_misplaced.proofs.tables.global_tables.Goals as goal

pub returns : goal.returns
returns c = λ all are. record {
  variables = λ name. c.in_ok-variables.ensures name ∙ ap (λ ns. is_listed (names_alone ns) name) (c.as_slice.ensures ∙ are.variables);
  parameters = λ name. c.in_ok-parameters.ensures name ∙ ap (λ ns. is_listed (names_alone ns) name) (c.as_slice-2.ensures ∙ are.parameters);
  flags = λ name. c.in_ok-flags.ensures name ∙ ap (λ ns. is_listed (names_alone ns) name) (c.as_slice-3.ensures ∙ are.flags);
  instances = λ name. c.in_ok-instances.ensures name ∙ ap (λ ns. is_listed (names_alone ns) name) (c.as_slice-4.ensures ∙ are.instances);
  is_open = are.is_open;
}
