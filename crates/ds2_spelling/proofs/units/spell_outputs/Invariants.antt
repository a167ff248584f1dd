use Rattle.std.proofs.Common.{◌≡◌, ◌++◌, drop}
use Rattle.ds2_tree.specs.Lists.{all_spelled}
use Rattle.ds2_tree.specs.Units.{output_spelling}
use Rattle.ds2_spelling.proofs.units.spell_outputs.Given as goal

abbrev pub invariant-loop-output : goal.invariant-loop-output
invariant-loop-output l = l.out ++ all_spelled output_spelling (drop l.output-index l.outputs) ≡ l.fn.out ++ all_spelled output_spelling l.outputs
