use Rattle.std.proofs.Common.{◌≡◌, drop}
use Rattle.ds2_meaning.specs.TypedStatement.{TypedStatements}
use Rattle.ds2_meaning.specs.View.{constructors_first}
use Rattle.ds2_program_code.specs.UsedConstants.{constants_of_body}
use Rattle.ds2_constants.specs.UsedOnce.{with_used}
use Rattle.ds2_generate.proofs.constants.collect_constructors.Given as goal

abbrev pub invariant-instances : goal.invariant-instances
invariant-instances l = (rest : TypedStatements) → with_used (constants_of_body (constructors_first (drop l.instance-index l.instances) rest)) l.table ≡ with_used (constants_of_body (constructors_first l.instances rest)) l.fn.table
