use Rattle.std.proofs.Common.{◌≡◌, ◌++◌, drop}
use Rattle.ds2_tree.specs.Lists.{all_spelled}
use Rattle.ds2_tree.specs.Readings.{by_variable_spelling}
use Rattle.ds2_spelling.proofs.readings.spell_by_variables.Given as goal

abbrev pub invariant-loop-variable : goal.invariant-loop-variable
invariant-loop-variable l = l.out ++ all_spelled by_variable_spelling (drop l.variable-index l.variables) ≡ l.fn.out ++ all_spelled by_variable_spelling l.variables
