use Rattle.std.proofs.Common.{ap, ◌∙◌}
use Rattle.ds2_elaboration.specs.SourceTypes.{parameter_variables}
use Rattle.ds2_names.specs.SourceUnit.{UnitSource}
use Rattle.ds2_program_types.proofs.check.head_of.Goals as goal

pub returns : goal.returns
returns c = record {
  name = c.in_ok-name.ensures;
  parameters = c.in_ok-parameters.ensures ∙ ap (λ (u : UnitSource). parameter_variables u) c.unit_of_thread-own.ensures;
}
