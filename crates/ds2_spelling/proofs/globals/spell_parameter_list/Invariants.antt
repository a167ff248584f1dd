use Rattle.std.proofs.Common.{◌≡◌, ◌++◌, drop}
use Rattle.ds2_tree.specs.Lists.{all_spelled}
use Rattle.ds2_tree.specs.Globals.{parameter_spelling}
use Rattle.ds2_spelling.proofs.globals.spell_parameter_list.Given as goal

abbrev pub invariant-loop-parameter : goal.invariant-loop-parameter
invariant-loop-parameter l = l.out ++ all_spelled parameter_spelling (drop l.parameter-index l.parameters) ≡ l.fn.out ++ all_spelled parameter_spelling l.parameters
