-- The name and the parameters of a thread program, as the code holds them.
use Rattle.std.specs.Prelude.{◌≡◌}
use Rattle.ds2_tree.specs.Units.{Thread}
use Rattle.ds2_names.specs.SourceUnit.{spelled_name, unit_of_thread}
use Rattle.ds2_elaboration.specs.SourceTypes.{parameter_variables}
use Rattle.ds2_program_types.specs.declared.check.ThreadHead.{ThreadHead}

-- those of this thread program
pub record IsHeadOf (t : Thread) (head : ThreadHead) : Type 0 where
  pub name : head.name ≡ spelled_name t.name
  pub parameters : head.parameters ≡ parameter_variables (unit_of_thread t)
