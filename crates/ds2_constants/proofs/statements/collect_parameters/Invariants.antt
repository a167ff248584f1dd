use Rattle.std.proofs.Common.{◌≡◌, map, drop}
use Rattle.ds2_meaning.specs.View.{parameter_tree}
use Rattle.ds2_program_code.specs.UsedConstants.{constants_of_parameters}
use Rattle.ds2_constants.specs.UsedOnce.{with_used}
use Rattle.ds2_constants.proofs.statements.collect_parameters.Given as goal

abbrev pub invariant-values : goal.invariant-values
invariant-values l = with_used (constants_of_parameters (map parameter_tree (drop l.setting-index l.values))) l.table ≡ with_used (constants_of_parameters (map parameter_tree l.values)) l.fn.table
