use Rattle.std.proofs.Common.{◌≡◌, ◌++◌, drop}
use Rattle.ds2_tree.specs.Lists.{all_spelled}
use Rattle.ds2_tree.specs.Readings.{input_spelling}
use Rattle.ds2_spelling.proofs.readings.spell_inputs.Given as goal

abbrev pub invariant-loop-input : goal.invariant-loop-input
invariant-loop-input l = l.out ++ all_spelled input_spelling (drop l.input-index l.inputs) ≡ l.fn.out ++ all_spelled input_spelling l.inputs
